-- the bits of a track, as a number
use Rattle.std.proofs.Common.{◌≡◌, ℕ, zero, suc, ◌+◌, ◌-◌, ◌*◌, ◌/◌, ◌%◌, ◌^◌, ◌<◌, ◌≤◌, Bool, true, false, cond, nat_eq, get_or, List, [], ◌∷◌, w32, add_comm, refl, sym, ap, ◌∙◌, inl, inr, arith}
use Rattle.std.specs.Prelude.{count_ones}
use Rattle.std.specs.List.{range_with_len, count_by, sum_by}
use Rattle.std.specs.Ordering.{nat_cmp}
use Rattle.std.specs.FinSet as set
use Rattle.std.specs.Int.{bit_at, from_le_bytes}
use Rattle.std.specs.Int.Count.{ones}
use Rattle.std.proofs.Math.Nat.{mod-lt, mod-eq_of_lt}
use Rattle.std.proofs.lemmas.Bool.{cases_lt}
use Rattle.std.proofs.lemmas.Nat.{pow_pos, mod-pow-add, pow-add, ones_cat}
use Rattle.std.proofs.lemmas.Nat.Bits.{bit_at_cat_low, bit_at_cat_high, bit_at-lt}
use Rattle.d64_image.specs.Block.{sectors_on, first_block}
use Rattle.d64_map.specs.Track.{has_sector, blocks_on, members_on}
use Rattle.d64_map.specs.Map.{map_entry_place, bit_in, bits_for}
use Rattle.d64_map.proofs.Ranges.{count_by-range_push, sum_by-range_push}
use Rattle.d64_map.proofs.Sectors.{has_sector-legal}
use Rattle.d64_map.proofs.Bits.{value_of, sum_below, bit_at-sum, bit_test, byte_below}
use Rattle.d64_map.proofs.Maps.{sectors_few}

-- the number of three bytes, the lowest first
three_bytes : (a b c : ℕ) → from_le_bytes w32 (a ∷ b ∷ c ∷ 0 ∷ []) ≡ (c * 2 ^ 8 + b) * 2 ^ 8 + a
three_bytes a b c = omega arith

-- a bit of the map is one of a byte
in_byte : (bytes : List ℕ) (track sector part bit byte : ℕ) → sector / 8 ≡ part → sector % 8 ≡ bit → byte ≡ get_or bytes (map_entry_place track + 1 + part) 0
    → bit_at byte bit ≡ bit_in bytes track sector
in_byte bytes track sector part bit byte p b e =
    ap (λ (n : ℕ). bit_at n bit) e
    ∙ ap (λ (k : ℕ). bit_at (get_or bytes (map_entry_place track + 1 + k) 0) bit) (sym p)
    ∙ ap (λ (k : ℕ). bit_at (get_or bytes (map_entry_place track + 1 + sector / 8) 0) k) (sym b)

-- the bits of a track's three bytes
pub bytes_read : (bytes : List ℕ) (track sector a b c : ℕ) → a < 256 → b < 256
    → a ≡ get_or bytes (map_entry_place track + 1 + 0) 0 → b ≡ get_or bytes (map_entry_place track + 1 + 1) 0 → c ≡ get_or bytes (map_entry_place track + 1 + 2) 0
    → sector < 24 → bit_at (from_le_bytes w32 (a ∷ b ∷ c ∷ 0 ∷ [])) sector ≡ bit_in bytes track sector
bytes_read bytes track sector a b c low_fits middle_fits e f g short =
    ap (λ (n : ℕ). bit_at n sector) (three_bytes a b c)
    ∙ elim (cases_lt sector 8) [
      | inl low ↦ bit_at_cat_low (c * 2 ^ 8 + b) 8 a sector low ∙ in_byte bytes track sector 0 sector a (omega arith) (omega arith) e
      | inr past ↦ bit_at_cat_high (c * 2 ^ 8 + b) 8 a sector low_fits past
          ∙ elim (cases_lt sector 16) [
            | inl middle ↦ bit_at_cat_low c 8 b (sector - 8) (omega arith) ∙ in_byte bytes track sector 1 (sector - 8) b (omega arith) (omega arith) f
            | inr high ↦ bit_at_cat_high c 8 b (sector - 8) middle_fits (omega arith) ∙ in_byte bytes track sector 2 (sector - 8 - 8) c (omega arith) (omega arith) g
          ]
    ]

-- a bit counts if it is set
one_bit : (bit : ℕ) → bit < 2 → count_ones bit ≡ cond (nat_eq bit 1) 1 0
unfolding ones
one_bit zero h = refl
one_bit (suc zero) h = refl
one_bit (suc (suc n)) h = absurd (omega arith)

-- of the lowest bits as many are set as pass the test
pub ones_counted : (bits n : ℕ) → count_ones (bits % 2 ^ n) ≡ count_by (λ s. nat_eq (bit_at bits s) 1) (range_with_len 0 n)
ones_counted bits zero = let e : bits % 2 ^ 0 ≡ 0 = omega arith in ap count_ones e ∙ one_bit 0 (omega arith)
ones_counted bits (suc n) =
    let next : 1 + n ≡ suc n = omega arith in
    let more : n + 1 ≡ suc n = omega arith in
    let z : 0 + n ≡ n = omega arith in
    ap (λ (k : ℕ). count_ones (bits % 2 ^ k)) (sym next)
    ∙ ap count_ones (mod-pow-add bits 1 n)
    ∙ ones_cat n (bit_at bits n) (bits % 2 ^ n) (mod-lt bits (pow_pos n))
    ∙ ap (λ (x : ℕ). x + count_ones (bits % 2 ^ n)) (one_bit (bit_at bits n) (bit_at-lt bits n))
    ∙ ap (λ (x : ℕ). cond (nat_eq (bit_at bits n) 1) 1 0 + x) (ones_counted bits n)
    ∙ add_comm (cond (nat_eq (bit_at bits n) 1) 1 0) (count_by (λ s. nat_eq (bit_at bits s) 1) (range_with_len 0 n))
    ∙ ap (λ (k : ℕ). count_by (λ s. nat_eq (bit_at bits s) 1) (range_with_len 0 n) + cond (nat_eq (bit_at bits k) 1) 1 0) (sym z)
    ∙ sym (count_by-range_push (λ s. nat_eq (bit_at bits s) 1) 0 n)
    ∙ ap (λ (k : ℕ). count_by (λ s. nat_eq (bit_at bits s) 1) (range_with_len 0 k)) more

-- tests that agree along two ranges pass as often
pub counted_alike : (p q : ℕ → Bool) (a n : ℕ) → ((k : ℕ) → k < n → p k ≡ q (a + k)) → count_by p (range_with_len 0 n) ≡ count_by q (range_with_len a n)
counted_alike p q a zero same = refl
counted_alike p q a (suc n) same =
    let more : n + 1 ≡ suc n = omega arith in
    let z : 0 + n ≡ n = omega arith in
    ap (λ (k : ℕ). count_by p (range_with_len 0 k)) (sym more)
    ∙ count_by-range_push p 0 n
    ∙ ap (λ (x : ℕ). x + cond (p (0 + n)) 1 0) (counted_alike p q a n (λ k h. same k (omega arith)))
    ∙ ap (λ (b : Bool). count_by q (range_with_len a n) + cond b 1 0) (ap p z ∙ same n (omega arith))
    ∙ sym (count_by-range_push q a n)
    ∙ ap (λ (k : ℕ). count_by q (range_with_len a k)) more

-- two numbers of bits are equal if their tests agree
bits_alike : (p q : ℕ → Bool) (n : ℕ) → ((k : ℕ) → k < n → p k ≡ q k) → sum_by (value_of p) (range_with_len 0 n) ≡ sum_by (value_of q) (range_with_len 0 n)
bits_alike p q zero same = refl
bits_alike p q (suc n) same =
    let more : n + 1 ≡ suc n = omega arith in
    let z : 0 + n ≡ n = omega arith in
    ap (λ (k : ℕ). sum_by (value_of p) (range_with_len 0 k)) (sym more)
    ∙ sum_by-range_push (value_of p) 0 n
    ∙ ap (λ (x : ℕ). x + value_of p (0 + n)) (bits_alike p q n (λ k h. same k (omega arith)))
    ∙ ap (λ (b : Bool). sum_by (value_of q) (range_with_len 0 n) + cond b (2 ^ (0 + n)) 0) (ap p z ∙ same n (omega arith) ∙ ap q (sym z))
    ∙ sym (sum_by-range_push (value_of q) 0 n)
    ∙ ap (λ (k : ℕ). sum_by (value_of q) (range_with_len 0 k)) more

-- the bits after the first eight, as a number of their own
bits_after : (p : ℕ → Bool) (n : ℕ)
    → sum_by (value_of p) (range_with_len 0 (8 + n)) ≡ 256 * sum_by (value_of (λ b. p (8 + b))) (range_with_len 0 n) + sum_by (value_of p) (range_with_len 0 8)
bits_after p zero =
    let e : sum_by (value_of p) (range_with_len 0 8) ≡ 0 + sum_by (value_of p) (range_with_len 0 8) = omega arith in e
bits_after p (suc n) =
    let more : n + 1 ≡ suc n = omega arith in
    let past : 8 + n + 1 ≡ 8 + suc n = omega arith in
    let z : 0 + n ≡ n = omega arith in
    let y : 0 + (8 + n) ≡ 8 + n = omega arith in
    let low = sum_by-range_push (value_of p) 0 (8 + n) in
    let high = sum_by-range_push (value_of (λ b. p (8 + b))) 0 n in
    let v : value_of p (0 + (8 + n)) ≡ 256 * value_of (λ b. p (8 + b)) (0 + n) =
    ap (value_of p) y ∙ eight_on (p (8 + n)) n ∙ ap (λ (k : ℕ). 256 * value_of (λ b. p (8 + b)) k) (sym z) in
    let so_far = bits_after p n in
    ap (λ (k : ℕ). sum_by (value_of p) (range_with_len 0 k)) (sym past)
    ∙ (let e : sum_by (value_of p) (range_with_len 0 (8 + n + 1)) ≡ 256 * sum_by (value_of (λ b. p (8 + b))) (range_with_len 0 (n + 1)) + sum_by (value_of p) (range_with_len 0 8) = omega (arith, low, high, v, so_far) in e)
    ∙ ap (λ (k : ℕ). 256 * sum_by (value_of (λ b. p (8 + b))) (range_with_len 0 k) + sum_by (value_of p) (range_with_len 0 8)) more
  where
    eight_on : (b : Bool) (n : ℕ) → cond b (2 ^ (8 + n)) 0 ≡ 256 * cond b (2 ^ n) 0
    eight_on true n = pow-add 2 8 n
    eight_on false n = refl

-- as many bits are set as tests pass
ones_of_bits : (p : ℕ → Bool) (n : ℕ) → count_ones (sum_by (value_of p) (range_with_len 0 n)) ≡ count_by p (range_with_len 0 n)
ones_of_bits p n =
    let bits : ℕ = sum_by (value_of p) (range_with_len 0 n) in
    ap count_ones (sym (mod-eq_of_lt (sum_below p n))) ∙ ones_counted bits n
    ∙ counted_alike (λ s. nat_eq (bit_at bits s) 1) p 0 n (λ k h.
    let z : k ≡ 0 + k = omega arith in
    ap (λ (b : ℕ). nat_eq b 1) (bit_at-sum p n k h) ∙ bit_test (p k) ∙ ap p z)

-- the number of a track's bits, whatever number of sectors is looked at
abbrev pub AreBitsOf : set.FinSet nat_cmp → ℕ → ℕ → Type 0
AreBitsOf free track bits =
    (count : ℕ) → sectors_on track ≤ count → bits ≡ sum_by (value_of (has_sector free track)) (range_with_len 0 count)

-- how many of them are set
pub ones_members : (free : set.FinSet nat_cmp) (track bits : ℕ) → 1 ≤ track → track < 41 → AreBitsOf free track bits → count_ones bits ≡ members_on free track
unfolding members_on blocks_on
ones_members free track bits one last are =
    ap count_ones (are (sectors_on track) (omega arith)) ∙ ones_of_bits (has_sector free track) (sectors_on track)
    ∙ counted_alike (has_sector free track) (set.contains free) (first_block track) (sectors_on track) (λ s held. has_sector-legal free track s one last held)

-- the bits of eight sectors, tested from 0
eight_from : (free : set.FinSet nat_cmp) (track first : ℕ) (p : ℕ → Bool) → ((k : ℕ) → k < 8 → p k ≡ has_sector free track (first + k))
    → sum_by (value_of p) (range_with_len 0 8) ≡ bits_for free track first
unfolding bits_for
eight_from free track first p same = bits_alike p (λ b. has_sector free track (first + b)) 8 same

-- a number of three bytes
record InBytes (bits low middle high : ℕ) : Type 0 where
  pub whole : bits ≡ 256 * (256 * high + middle) + low
  pub low_fits : low < 256
  pub middle_fits : middle < 256
  pub high_fits : high < 256

-- the three bytes of a track's bits
in_bytes : (free : set.FinSet nat_cmp) (track bits : ℕ) → AreBitsOf free track bits
    → InBytes bits (bits_for free track 0) (bits_for free track 8) (bits_for free track 16)
in_bytes free track bits are =
    let few = sectors_few track in
    let p : ℕ → Bool = has_sector free track in
    let q : ℕ → Bool = λ b. p (8 + b) in
    let r : ℕ → Bool = λ b. q (8 + b) in
    let low = eight_from free track 0 p (λ k _. let e : k ≡ 0 + k = omega arith in ap p e) in
    let middle = eight_from free track 8 q (λ k _. refl) in
    let high = eight_from free track 16 r (λ k _. let e : 8 + (8 + k) ≡ 16 + k = omega arith in ap p e) in
    let whole = are (8 + (8 + 8)) (omega arith) ∙ bits_after p (8 + 8) in
    let rest = bits_after q 8 in
    let a = byte_below p in
    let b = byte_below q in
    let c = byte_below r in
    record { whole = omega arith; low_fits = omega arith; middle_fits = omega arith; high_fits = omega arith }

pub low_byte : (free : set.FinSet nat_cmp) (track bits : ℕ) → AreBitsOf free track bits → bits % 256 ≡ bits_for free track 0
low_byte free track bits are = let b = in_bytes free track bits are in omega (arith, b.whole, b.low_fits)

pub middle_byte : (free : set.FinSet nat_cmp) (track bits : ℕ) → AreBitsOf free track bits → bits / 256 % 256 ≡ bits_for free track 8
middle_byte free track bits are = let b = in_bytes free track bits are in omega (arith, b.whole, b.low_fits, b.middle_fits)

pub high_byte : (free : set.FinSet nat_cmp) (track bits : ℕ) → AreBitsOf free track bits → bits / 65536 % 256 ≡ bits_for free track 16
high_byte free track bits are = let b = in_bytes free track bits are in omega (arith, b.whole, b.low_fits, b.middle_fits, b.high_fits)
