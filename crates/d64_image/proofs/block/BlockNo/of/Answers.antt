use Rattle.std.proofs.Common.{◌≡◌, ℕ, ◌+◌, ◌<◌, ◌≤◌, Some, Fits, w16, ap, ◌∙◌, sym, subst, arith}
use Rattle.d64_image.specs.Block.{sectors_on}
use Rattle.d64_image.proofs.Zones.{counted_below, first_block_below, starts_at, ends_at}
use Rattle.d64_image.proofs.Pairs.{block_of-legal, block_of-none}
use Rattle.d64_image.proofs.block.BlockNo.of.Goals as goal

pub returns-then-track-lt1-clause-place : goal.returns-then-track-lt1-clause-place
returns-then-track-lt1-clause-place c = sym (block_of-none c.args.track c.args.sector (λ l h k. omega (arith, c.then-track-lt1.either)))

pub overflow_add-index : goal.overflow_add-index
overflow_add-index c =
    let start = starts_at c.args.track c.from-start.result c.from-start.ensures (omega arith) in
    let few = first_block_below c.args.track (omega arith) in
    subst (λ (n : ℕ). Fits w16 (n + c.from.result)) (sym start) (omega arith)

-- a sector is counted from where its track begins, and the disk has those before the track's end
counted_on : (start first index sector : ℕ) → start ≡ first → index ≡ sector → start + index ≡ first + sector
counted_on start first index sector e f = omega arith

held_on : (start end first count index sector : ℕ) → start ≡ first → end ≡ first + count → index ≡ sector → start + index < end → sector < count
held_on start end first count index sector e f g h = omega arith

past_on : (start end first count index sector : ℕ) → start ≡ first → end ≡ first + count → index ≡ sector → end ≤ start + index → sector < count → ⊥
past_on start end first count index sector e f g h k = omega arith

held : (c : goal.Then-index-start) → c.args.sector < sectors_on c.args.track
held c =
    held_on _ _ _ _ _ _ (starts_at c.args.track c.from-start.result c.from-start.ensures (omega arith))
    (ends_at c.args.track c.from-start.result c.from-start.ensures (omega arith) (omega arith)) c.from.ensures c.if-index-start.true

pub invariant_of-result : goal.invariant_of-result
invariant_of-result c =
    subst (λ (n : ℕ). n < 768)
    (sym (counted_on _ _ _ _ (starts_at c.args.track c.from-start.result c.from-start.ensures (omega arith)) c.from.ensures))
    (counted_below c.args.track c.args.sector (omega arith) (held c))

pub returns-then-index-start-clause-place : goal.returns-then-index-start-clause-place
returns-then-index-start-clause-place c =
    ap (λ (n : ℕ). Some n) (counted_on _ _ _ _ (starts_at c.args.track c.from-start.result c.from-start.ensures (omega arith)) c.from.ensures)
    ∙ sym (block_of-legal c.args.track c.args.sector (omega arith) (omega arith) (held c))

pub returns-then-index-start-clause-within : goal.returns-then-index-start-clause-within
returns-then-index-start-clause-within c = invariant_of-result c

pub returns-else-index-start-clause-place : goal.returns-else-index-start-clause-place
returns-else-index-start-clause-place c =
    sym (block_of-none c.args.track c.args.sector (λ l h k.
    past_on _ _ _ _ _ _ (starts_at c.args.track c.from-start.result c.from-start.ensures (omega arith))
    (ends_at c.args.track c.from-start.result c.from-start.ensures l h) c.from.ensures c.if-index-start.false k))
