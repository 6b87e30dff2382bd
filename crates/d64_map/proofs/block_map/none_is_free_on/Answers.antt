use Rattle.std.proofs.Common.{◌≡◌, ◌≢◌, ℕ, ◌+◌, ◌-◌, ◌<◌, ◌^◌, Bool, true, false, nat_eq, length, sym, ap, ◌∙◌, subst, inl, inr, arith}
use Rattle.std.specs.Int.{bit_at}
use Rattle.std.specs.List.{range_with_len, sum_by}
use Rattle.std.specs.FinSet as set
use Rattle.std.proofs.lemmas.Bool.Decides.{Decides-eqb, eqb_tells}
use Rattle.std.proofs.lemmas.Nat.Bits.{bit_at-lt}
use Rattle.d64_image.specs.Block.{sectors_on, first_block}
use Rattle.d64_image.proofs.Sizes.{counted_within, tracks_most}
use Rattle.d64_map.specs.Map.{free_blocks}
use Rattle.d64_map.specs.Track.{has_sector}
use Rattle.d64_map.proofs.Bits.{value_of, as_bit, bit_test, sum_below, bit_at-sum}
use Rattle.d64_map.proofs.FreeBlocks.{bit_is_member}
use Rattle.d64_map.proofs.Maps.{sectors_few}
use Rattle.d64_map.proofs.MemberBits.{not_shared, share_none}
use Rattle.d64_map.proofs.Sectors.{first_block-next, has_sector-legal}
use Rattle.d64_map.proofs.block_map.none_is_free_on.Goals as goal

pub returns : goal.returns
returns c =
    let image = c.args.image.now in
    let blocks = c.args.blocks.now in
    let track = c.args.track in
    let first : ℕ = first_block track in
    let count : ℕ = sectors_on track in
    let p : ℕ → Bool = has_sector blocks track in
    let free : ℕ = c.bits_on-free.result in
    let members : ℕ = c.member_bits.result in
    let next = first_block-next track c.requires.track.0 in
    let few = sectors_few track in
    let last : track < 41 = let most = tracks_most (length image) c.known_image.ensures.size in omega (arith, most, c.requires.track.1) in
    let bits : members ≡ sum_by (value_of p) (range_with_len 0 count) = c.member_bits.ensures.bits count (omega arith) in
    let is_free : (s : ℕ) → s < count → nat_eq (bit_at free s) 1 ≡ set.contains (free_blocks image) (first + s) =
    λ s h. ap (λ (n : ℕ). nat_eq n 1) (c.bits_on-free.ensures s (omega (arith, h, few)))
    ∙ bit_is_member image track s c.map_of.result.now c.map_of.ensures.value c.requires.track.0 last h (counted_within (length image) track s c.known_image.ensures.size c.requires.track.1 h) in
    let is_member : (s : ℕ) → s < count → bit_at members s ≡ as_bit (set.contains blocks (first + s)) =
    λ s h. ap (λ (n : ℕ). bit_at n s) bits ∙ bit_at-sum p count s h ∙ ap as_bit (has_sector-legal blocks track s c.requires.track.0 last h) in
    record {
      none = (
        λ e block from to has.
            let s : ℕ = block - first in
            let h : block - first < count = omega (arith, from, to, next) in
            let same : first + (block - first) ≡ block = omega (arith, from) in
            let one : bit_at members (block - first) ≡ 1 = is_member (block - first) h ∙ ap (λ (k : ℕ). as_bit (set.contains blocks k)) same ∙ ap as_bit has in
            let zero = not_shared free members (block - first) ((Decides-eqb _ _).0 e) one in
            ap (set.contains (free_blocks image)) (sym same) ∙ sym (is_free (block - first) h) ∙ ap (λ (n : ℕ). nat_eq n 1) zero,
        λ none. (Decides-eqb _ _).1 (share_none free members count (subst (λ (n : ℕ). n < 2 ^ count) (sym bits) (sum_below p count)) (λ s h one.
            let has : set.contains blocks (first + s) ≡ true = sym (bit_test (set.contains blocks (first + s))) ∙ ap (λ (n : ℕ). nat_eq n 1) (sym (is_member s h) ∙ one) in
            let not_free = is_free s h ∙ none (first + s) (omega arith) (omega (arith, h, next)) has in
            let small = bit_at-lt free s in
            elim (eqb_tells (bit_at free s) 1) [
              | inl is ↦ let f : true ≡ false = sym is.0 ∙ not_free in absurd (cc)
              | inr other ↦ let n : bit_at free s ≢ 1 = other.1 in omega arith
            ])),
      );
    }
