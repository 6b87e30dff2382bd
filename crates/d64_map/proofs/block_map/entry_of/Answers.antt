use Rattle.std.proofs.Common.{ℕ, ◌+◌, ◌*◌, ap, sym, ◌∙◌, arith}
use Rattle.d64_map.proofs.Entries.{entry_of-low, entry_of-high}
use Rattle.d64_map.proofs.block_map.entry_of.Goals as goal

pub returns-then-number-lt-FIRST_TRACK_BEYOND-clause-place : goal.returns-then-number-lt-FIRST_TRACK_BEYOND-clause-place
returns-then-number-lt-FIRST_TRACK_BEYOND-clause-place c =
    ap (λ (n : ℕ). 4 * n) (c.from-place.ensures ∙ c.number-number.ensures.value) ∙ sym (entry_of-low c.args.track (omega (arith, c.number-number.ensures.value, c.if-number-lt-FIRST_TRACK_BEYOND.true)))

pub returns-else-number-lt-FIRST_TRACK_BEYOND-clause-place : goal.returns-else-number-lt-FIRST_TRACK_BEYOND-clause-place
returns-else-number-lt-FIRST_TRACK_BEYOND-clause-place c =
    ap (λ (n : ℕ). 4 * n + 48) (c.from-place.ensures ∙ c.number-number.ensures.value) ∙ sym (entry_of-high c.args.track (omega (arith, c.number-number.ensures.value, c.if-number-lt-FIRST_TRACK_BEYOND.false)))
