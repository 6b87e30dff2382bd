use Rattle.std.proofs.Common.{◌≡◌, ℕ, List, [], ◌∷◌, length, get_or, sym, ap, ◌∙◌, subst, arith}
use Rattle.std.proofs.lemmas.List.Elements.{All-get_or}
use Rattle.d64_image.specs.Patch.{Kept, IsPatchOf, RisesBetween, restored_image}
use Rattle.d64_image.proofs.Patches.{length-restored_image}
use Rattle.d64_history.specs.ResumeFault.{differ_along}
use Rattle.d64_history.specs.Resuming.{on_side}
use Rattle.d64_history.proofs.Reading.{differ_ends, differ_on, differ_all}
use Rattle.d64_history.proofs.leading.all_lead.Goals as goal

-- a record is left on that side
pub next_on_side-requires-clause-more : goal.next_on_side-requires-clause-more
next_on_side-requires-clause-more c =
    let left = c.loop.invariant.left in
    let count = c.side_len-end.ensures in
    let more = c.loop-test.true in
    omega arith

-- the record has a block that doesn't differ
pub returns-then-not-is_difference : goal.returns-then-not-is_difference
returns-then-not-is_difference c =
    let rest = on_side c.args.is_back c.args.records.now c.next_on_side.result.1.number in
    differ_ends (on_side c.args.is_back c.args.records.now c.loop.place.number) rest c.loop.image c.at.result.now
    (c.next_on_side.ensures.side ∙ ap (λ (p : Kept). p ∷ rest) (sym c.at.ensures.kept)) c.if-not-is_difference.ensures
    ∙ c.loop.invariant.differ

-- the blocks of one record more differ
pub loop-preserved : goal.loop-preserved
loop-preserved c =
    let list = on_side c.args.is_back c.args.records.now c.loop.place.number in
    let rest = on_side c.args.is_back c.args.records.now c.next_on_side.result.1.number in
    let patch : Kept = c.at.result.now in
    let side : list ≡ patch ∷ rest = c.next_on_side.ensures.side ∙ ap (λ (p : Kept). p ∷ rest) (sym c.at.ensures.kept) in
    let long = ap (λ (ps : List Kept). length ps) side in
    let left = c.loop.invariant.left in
    record {
      differ =
          ap (λ (image : List (List ℕ)). differ_along image rest) (c.put_back.ensures ∙ ap (λ (p : Kept). restored_image c.loop.image p) (sym c.at.ensures.kept))
          ∙ differ_on list rest c.loop.image patch side c.if-not-is_difference.ensures
          ∙ c.loop.invariant.differ;
      left = omega arith;
      within = c.next_on_side.ensures.after.0;
      place = c.next_on_side.ensures.after.1;
      long = ap (λ (image : List (List ℕ)). length image) c.put_back.ensures ∙ length-restored_image (get_or c.args.records.now c.next_on_side.result.0.number []) c.loop.image ∙ c.loop.invariant.long;
    }

-- the image has the blocks of the record
pub put_back-requires-clause-held : goal.put_back-requires-clause-held
put_back-requires-clause-held c =
    subst (λ (n : ℕ). RisesBetween 0 n (get_or c.args.records.now c.next_on_side.result.0.number [])) (sym c.loop.invariant.long)
    (All-get_or (IsPatchOf c.args.image) c.args.records.now c.next_on_side.result.0.number [] c.next_on_side.ensures.record.0 c.requires.records)

-- no record is left
pub returns : goal.returns
returns c =
    let left = c.loop.invariant.left in
    let count = c.side_len-end.ensures in
    let none = c.loop-test.false in
    differ_all (on_side c.args.is_back c.args.records.now c.loop.place.number) c.loop.image (omega arith) ∙ c.loop.invariant.differ
