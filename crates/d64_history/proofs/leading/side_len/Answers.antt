use Rattle.std.proofs.Common.{◌-◌, ℕ, Bool, cond, length, sym, ap, ◌∙◌}
use Rattle.d64_history.proofs.Reading.{length-on_side}
use Rattle.d64_history.proofs.leading.side_len.Goals as goal

-- those before the place
pub returns-then-is_back : goal.returns-then-is_back
returns-then-is_back c =
    sym (length-on_side c.args.is_back c.args.records.now c.args.place.number c.requires
    ∙ ap (λ (t : Bool). cond t c.args.place.number (length c.args.records.now - c.args.place.number)) c.if-is_back.true)

-- and those after it
pub returns-else-is_back : goal.returns-else-is_back
returns-else-is_back c =
    ap (λ (n : ℕ). n - c.args.place.number) c.len.ensures
    ∙ sym (length-on_side c.args.is_back c.args.records.now c.args.place.number c.requires
    ∙ ap (λ (t : Bool). cond t c.args.place.number (length c.args.records.now - c.args.place.number)) c.if-is_back.false)
