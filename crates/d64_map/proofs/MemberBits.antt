-- the bits of a track's members, read from the set at once and compared with those of the map
use Rattle.std.proofs.Common.{◌≡◌, ◌≢◌, ℕ, zero, suc, ◌+◌, ◌%◌, ◌^◌, ◌<◌, ◌≤◌, min, Bool, false, cond, nat_eq, Some, None, bit_and, refl, sym, ap, ◌∙◌, inl, inr, arith}
use Rattle.std.specs.List.{range_with_len, sum_by, find}
use Rattle.std.specs.Int.{bit_at}
use Rattle.std.specs.Ordering.{nat_cmp}
use Rattle.std.specs.FinSet as set
use Rattle.std.proofs.Math.Nat.{mod-lt}
use Rattle.std.proofs.lemmas.Bool.{cases_lt}
use Rattle.std.proofs.lemmas.Bool.Decides.{eqb_tells}
use Rattle.std.proofs.lemmas.Nat.{pow_pos}
use Rattle.std.proofs.lemmas.Nat.Bits.{bit_at-lt, bit_at-zero, bit_at_and, bit_at_above, same_from_bits, same_from_bits_below}
use Rattle.d64_image.specs.Block.{sectors_on, first_block}
use Rattle.d64_image.proofs.Windows.{bit_at-mod}
use Rattle.d64_map.specs.Track.{blocks_on, has_sector}
use Rattle.d64_map.proofs.Bits.{value_of, sum_below, as_bit, bit_at-sum, bit_test}
use Rattle.d64_map.proofs.Searching.{all_on}
use Rattle.d64_map.proofs.Sectors.{has_sector-legal}

-- the lowest of the bits from a track's first block on are those of its sectors
pub members_read : (blocks : set.FinSet nat_cmp) (track first count bits : ℕ) → 1 ≤ track → track < 41 → count ≡ sectors_on track → first ≡ first_block track → count < 32
    → ((bit : ℕ) → bit < 32 → bit_at bits bit ≡ cond (set.contains blocks (first + bit)) 1 0)
    → bits % 2 ^ count ≡ sum_by (value_of (has_sector blocks track)) (range_with_len 0 count)
members_read blocks track first count bits one last sectors place few show =
    let p : ℕ → Bool = has_sector blocks track in
    same_from_bits_below count _ _ (mod-lt bits (pow_pos count)) (sum_below p count) (λ s h.
    let held : s < sectors_on track = omega (arith, h, sectors) in
    bit_at-mod bits count s h
    ∙ show s (omega arith)
    ∙ ap (λ (k : ℕ). as_bit (set.contains blocks (k + s))) place
    ∙ ap as_bit (sym (has_sector-legal blocks track s one last held))
    ∙ sym (bit_at-sum p count s h))

-- numbers that share no bit
pub not_shared : (a b s : ℕ) → bit_and a b ≡ 0 → bit_at b s ≡ 1 → bit_at a s ≡ 0
not_shared a b s none one =
    let m : min (bit_at a s) (bit_at b s) ≡ 0 = sym (bit_at_and a b s) ∙ ap (λ (n : ℕ). bit_at n s) none ∙ bit_at-zero s in
    let h = bit_at-lt a s in
    omega arith

pub share_none : (a b n : ℕ) → b < 2 ^ n → ((s : ℕ) → s < n → bit_at b s ≡ 1 → bit_at a s ≡ 0) → bit_and a b ≡ 0
share_none a b n below each =
    same_from_bits (bit_and a b) 0 (λ s.
    bit_at_and a b s
    ∙ elim (cases_lt s n) [
      | inl h ↦ elim (eqb_tells (bit_at b s) 1) [
        | inl one ↦ let z = each s h one.1 in omega arith
        | inr other ↦ let l = bit_at-lt b s in let n : bit_at b s ≢ 1 = other.1 in omega arith
      ]
      | inr past ↦ let z = bit_at_above b n s below past in omega arith
    ]
    ∙ sym (bit_at-zero s))

-- if no bit of a track is set, no block of it is a member
find_none : (p : ℕ → Bool) (a n : ℕ) → ((s : ℕ) → s < n → p (a + s) ≡ false) → find p (range_with_len a n) ≡ None
find_none p a zero none = refl
find_none p a (suc n) none =
    let here : a + 0 ≡ a = omega arith in
    ap (λ (b : Bool). cond b (Some a) (find p (range_with_len (a + 1) n))) (ap p (sym here) ∙ none 0 (omega arith))
    ∙ find_none p (a + 1) n (λ s h. let later : a + 1 + s ≡ a + suc s = omega arith in ap p later ∙ none (suc s) (omega arith))

pub none_on : (free : set.FinSet nat_cmp) (track bits : ℕ) → 1 ≤ track → track < 41
    → ((count : ℕ) → sectors_on track ≤ count → bits ≡ sum_by (value_of (has_sector free track)) (range_with_len 0 count))
    → bits ≡ 0 → find (set.contains free) (blocks_on track) ≡ None
none_on free track bits one last are empty =
    ap (find (set.contains free)) (all_on track)
    ∙ find_none (set.contains free) (first_block track) (sectors_on track) (λ s held.
    let bit : as_bit (has_sector free track s) ≡ 0 =
    sym (bit_at-sum (has_sector free track) (sectors_on track) s held) ∙ ap (λ (n : ℕ). bit_at n s) (sym (are (sectors_on track) (omega arith)) ∙ empty) ∙ bit_at-zero s in
    sym (has_sector-legal free track s one last held) ∙ sym (bit_test (has_sector free track s)) ∙ ap (λ (n : ℕ). nat_eq n 1) bit)
