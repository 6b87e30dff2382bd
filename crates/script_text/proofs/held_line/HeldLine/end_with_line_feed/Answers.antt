-- The line says what it is without the CR at its end.
use Rattle.std.proofs.Common.{◌-◌, cond, length, take, sym, ap, refl, ◌∙◌, arith}
use Rattle.std.specs.Io.BufRead.{ends_with_byte}
use Rattle.script_text.proofs.OpenLines.{Says-ended}
use Rattle.script_text.proofs.held_line.HeldLine.end_with_line_feed.Goals as goal

pub returns-then-ends_with_carriage_return : goal.returns-then-ends_with_carriage_return
returns-then-ends_with_carriage_return c before holds is_open =
    let held = c.args.self.now.bytes.items in
    let value = c.as_slice.ensures.value in
    let cut = ap (λ b. cond b (take (length held - 1) held) held) (sym (sym c.if-ends_with_carriage_return.true ∙ c.ends_with_carriage_return.ensures ∙ ap (ends_with_byte 13) value)) in
    Says-ended c.args.self.now (record { bytes = c.pop.new.self; is_long = c.args.self.now.is_long }) before (omega (arith, c.as_slice.ensures.fits, ap length value))
    (c.pop.ensures.rest ∙ sym cut) refl holds is_open

pub returns-else-ends_with_carriage_return : goal.returns-else-ends_with_carriage_return
returns-else-ends_with_carriage_return c before holds is_open =
    let held = c.args.self.now.bytes.items in
    let value = c.as_slice.ensures.value in
    let cut = ap (λ b. cond b (take (length held - 1) held) held) (sym (sym c.if-ends_with_carriage_return.false ∙ c.ends_with_carriage_return.ensures ∙ ap (ends_with_byte 13) value)) in
    Says-ended c.args.self.now c.args.self.now before (omega (arith, c.as_slice.ensures.fits, ap length value)) (sym cut) refl holds is_open
