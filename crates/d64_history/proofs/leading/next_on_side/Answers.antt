use Rattle.std.proofs.Common.{◌≡◌, ◌∷◌, [], ◌-◌, Bool, cond, length, get_or, sym, ap, ◌∙◌, subst, arith}
use Rattle.d64_history.specs.Resuming.{on_side}
use Rattle.d64_history.proofs.Reading.{length-on_side, back-next, on-next}
use Rattle.d64_history.proofs.leading.next_on_side.Goals as goal

-- a record is done
pub previous-record-requires-clause-within : goal.previous-record-requires-clause-within
previous-record-requires-clause-within c =
    let long = length-on_side c.args.is_back c.args.records.now c.args.place.number c.requires.within
    ∙ ap (λ (t : Bool). cond t c.args.place.number (length c.args.records.now - c.args.place.number)) c.if-is_back.true in
    let more = c.requires.more in
    let within = c.requires.within in
    (omega arith, within)

-- a record is undone
pub next-requires-clause-within : goal.next-requires-clause-within
next-requires-clause-within c =
    let long = length-on_side c.args.is_back c.args.records.now c.args.place.number c.requires.within
    ∙ ap (λ (t : Bool). cond t c.args.place.number (length c.args.records.now - c.args.place.number)) c.if-is_back.false in
    let more = c.requires.more in
    omega arith

pub returns-then-is_back-clause-side : goal.returns-then-is_back-clause-side
returns-then-is_back-clause-side c =
    let records = c.args.records.now in
    let r = c.previous-record.result.number in
    subst (λ (t : Bool). on_side t records c.args.place.number ≡ get_or records r [] ∷ on_side t records r) (sym c.if-is_back.true)
    (back-next records c.args.place.number r c.previous-record.ensures.number c.requires.within)

pub returns-else-is_back-clause-side : goal.returns-else-is_back-clause-side
returns-else-is_back-clause-side c =
    let records = c.args.records.now in
    let n = c.args.place.number in
    let long = length-on_side c.args.is_back records n c.requires.within
    ∙ ap (λ (t : Bool). cond t n (length records - n)) c.if-is_back.false in
    let more = c.requires.more in
    subst (λ (t : Bool). on_side t records n ≡ get_or records n [] ∷ on_side t records c.next.result.number) (sym c.if-is_back.false)
    (on-next records n c.next.result.number c.next.ensures.number (omega arith))
