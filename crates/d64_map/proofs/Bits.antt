-- a byte made of eight bits
use Rattle.std.proofs.Common.{◌≡◌, ℕ, zero, suc, ◌+◌, ◌-◌, ◌*◌, ◌^◌, ◌<◌, ◌≤◌, if◌then◌else◌, Bool, true, false, cond, nat_eq, add_comm, refl, sym, ap, ◌∙◌, subst, inl, inr, arith}
use Rattle.std.specs.List.{range_with_len, sum_by}
use Rattle.std.specs.Int.{bit_at}
use Rattle.std.proofs.Math.Nat.{two-pow-succ}
use Rattle.std.proofs.lemmas.Bool.{cases_lt}
use Rattle.std.proofs.lemmas.Nat.Bits.{bit_at_cat_low, bit_at_cat_high}
use Rattle.d64_map.proofs.Ranges.{sum_more, sum_by-range_push}

-- the value of the bits that are set
abbrev pub value_of : (ℕ → Bool) → ℕ → ℕ
value_of p b = if p b then 2 ^ b else 0

-- one more bit that is not set
bits_same : (p : ℕ → Bool) (k c d : ℕ) → c ≡ sum_by (value_of p) (range_with_len 0 k) → p k ≡ false → d ≡ c
    → d ≡ sum_by (value_of p) (range_with_len 0 (k + 1))
bits_same p k c d summed bit same =
    let z : 0 + k ≡ k = omega arith in
    let v : value_of p (0 + k) ≡ 0 = ap (value_of p) z ∙ ap (λ (b : Bool). cond b (2 ^ k) 0) bit in
    sum_more (value_of p) 0 k c d summed (omega arith)

-- past the last bit that is set the sum stays the same
more_past : (p : ℕ → Bool) (n more : ℕ) → ((s : ℕ) → n ≤ s → p s ≡ false) → sum_by (value_of p) (range_with_len 0 n) ≡ sum_by (value_of p) (range_with_len 0 (n + more))
more_past p n zero none = let e : n ≡ n + 0 = omega arith in ap (λ (k : ℕ). sum_by (value_of p) (range_with_len 0 k)) e
more_past p n (suc more) none =
    let e : n + more + 1 ≡ n + suc more = omega arith in
    bits_same p (n + more) _ _ (more_past p n more none) (none (n + more) (omega arith)) refl
    ∙ ap (λ (k : ℕ). sum_by (value_of p) (range_with_len 0 k)) e

pub bits_past : (p : ℕ → Bool) (n count : ℕ) → n ≤ count → ((s : ℕ) → n ≤ s → p s ≡ false)
    → sum_by (value_of p) (range_with_len 0 n) ≡ sum_by (value_of p) (range_with_len 0 count)
bits_past p n count some none =
    let e : n + (count - n) ≡ count = omega arith in
    more_past p n (count - n) none ∙ ap (λ (k : ℕ). sum_by (value_of p) (range_with_len 0 k)) e

-- the value of the bits below n is below the next bit's
pub sum_below : (p : ℕ → Bool) (n : ℕ) → sum_by (value_of p) (range_with_len 0 n) < 2 ^ n
sum_below p zero = omega arith
sum_below p (suc n) =
    let e : n + 1 ≡ suc n = omega arith in
    let s = ap (λ (k : ℕ). sum_by (value_of p) (range_with_len 0 k)) (sym e) ∙ sum_by-range_push (value_of p) 0 n in
    let z : 0 + n ≡ n = omega arith in
    let v : value_of p (0 + n) ≤ 2 ^ n = subst (λ (k : ℕ). value_of p k ≤ 2 ^ n) (sym z) (value_below (p n) (2 ^ n)) in
    let h = sum_below p n in
    let t = two-pow-succ n in
    omega arith
  where
    value_below : (b : Bool) (v : ℕ) → cond b v 0 ≤ v
    value_below true v = omega arith
    value_below false v = omega arith

-- a bit as a number
abbrev pub as_bit : Bool → ℕ
as_bit b = cond b 1 0

value_is : (b : Bool) (v : ℕ) → cond b v 0 ≡ as_bit b * v
value_is true v = omega arith
value_is false v = omega arith

pub bit_test : (b : Bool) → nat_eq (as_bit b) 1 ≡ b
bit_test true = refl
bit_test false = refl

bit_of_bit : (b : Bool) → bit_at (as_bit b) 0 ≡ as_bit b
bit_of_bit true = refl
bit_of_bit false = refl

-- each bit of the sum is the test at its place
pub bit_at-sum : (p : ℕ → Bool) (n k : ℕ) → k < n → bit_at (sum_by (value_of p) (range_with_len 0 n)) k ≡ as_bit (p k)
bit_at-sum p zero k h = absurd (omega arith)
bit_at-sum p (suc n) k h =
    let e : n + 1 ≡ suc n = omega arith in
    let z : 0 + n ≡ n = omega arith in
    let low : ℕ = sum_by (value_of p) (range_with_len 0 n) in
    let v : value_of p (0 + n) ≡ as_bit (p n) * 2 ^ n = ap (value_of p) z ∙ value_is (p n) (2 ^ n) in
    let s : sum_by (value_of p) (range_with_len 0 (suc n)) ≡ as_bit (p n) * 2 ^ n + low =
    ap (λ (j : ℕ). sum_by (value_of p) (range_with_len 0 j)) (sym e) ∙ sum_by-range_push (value_of p) 0 n ∙ ap (λ (x : ℕ). low + x) v ∙ add_comm low (as_bit (p n) * 2 ^ n) in
    ap (λ (x : ℕ). bit_at x k) s
    ∙ elim (cases_lt k n) [
      | inl below ↦ bit_at_cat_low (as_bit (p n)) n low k below ∙ bit_at-sum p n k below
      | inr past ↦
          let same : n ≡ k = omega arith in
          let last : k - n ≡ 0 = omega arith in
          bit_at_cat_high (as_bit (p n)) n low k (sum_below p n) past ∙ ap (bit_at (as_bit (p n))) last ∙ bit_of_bit (p n) ∙ ap (λ (j : ℕ). as_bit (p j)) same
    ]

pub byte_below : (p : ℕ → Bool) → sum_by (value_of p) (range_with_len 0 8) < 256
byte_below p = sum_below p 8
