use Rattle.std.proofs.Common.{◌≡◌, ℕ, ◌+◌, ◌*◌, ◌/◌, ◌%◌, ◌^◌, ◌&&◌, ◌||◌, ltb, List, ap, ap₂, ◌∙◌, subst, arith}
use Rattle.std.specs.Ordering.{nat_cmp}
use Rattle.std.specs.FinSet as set
use Rattle.std.proofs.lemmas.Nat.{shl_whole}
use Rattle.d64_image.specs.declared.block.TheConstants.{BLOCKS}
use Rattle.d64_image.specs.BlockSet.{marked_blocks, AreWords, with_bits, is_given}
use Rattle.d64_image.proofs.AddedBits.{with_both, contains-with_both}
use Rattle.d64_image.proofs.block_set.BlockSet.add_bits.Goals as goal

pub returns : goal.returns
returns c = λ block.
    let words = c.self.inside.words in
    let first = c.args.first in
    let bits = c.args.bits in
    let fit = c.ranges.bits.fits in
    let whole : c.from.result * 2 ^ (first % 32) % 2 ^ 64 ≡ bits * 2 ^ (first % 32) =
    ap (λ (n : ℕ). n * 2 ^ (first % 32) % 2 ^ 64) c.from.ensures ∙ shl_whole bits 32 (first % 32) 64 fit (omega arith) in
    let once : c.set_bits.new.words ≡ with_bits words (first / 32) (bits * 2 ^ (first % 32) % 2 ^ 32) =
    c.set_bits.ensures.set ∙ ap (λ (n : ℕ). with_bits words (first / 32) (n % 2 ^ 32)) whole in
    let both : c.set_bits-2.new.words ≡ with_both words first bits =
    c.set_bits-2.ensures.set ∙ ap₂ (λ (xs : List ℕ) (n : ℕ). with_bits xs (first / 32 + 1) (n / 2 ^ 32)) once whole in
    let still = subst AreWords both (c.set_bits-2.ensures.fit (c.set_bits.ensures.fit c.self.invariant)) in
    ap (λ (xs : List ℕ). set.contains (marked_blocks xs) block) both
    ∙ contains-with_both words first bits block c.self.invariant still fit
    ∙ ap (λ (members : set.FinSet nat_cmp). set.contains members block || (ltb block BLOCKS && is_given first bits block)) c.self.view_is
