-- The bytes and bits at the places of a circle, and in three bytes of it
use Rattle.std.proofs.Common.{◌≡◌, ℕ, zero, suc, ◌+◌, ◌-◌, ◌*◌, ◌/◌, ◌%◌, ◌^◌, ◌<◌, ◌≤◌, List, length, get_or, refl, sym, ap, ap₂, ◌∙◌, inl, inr, arith}
use Rattle.std.specs.Int.{bit_at}
use Rattle.std.proofs.Math.Nat.{mod-eq_of_lt, add-mul-mod_self_left, mod-add-div'}
use Rattle.std.proofs.lemmas.Bool.{cases_lt}
use Rattle.std.proofs.lemmas.Nat.{mod-pow-add, shr-shr}
use Rattle.std.proofs.lemmas.Nat.Bits.{bit_at_cat_low, bit_at_cat_high}
use Rattle.d64_g64.specs.Circle.{byte_on, bit_on, bits_from}

-- the elements of a list of bytes are bytes
abbrev pub AreBytes : List ℕ → Type 0
AreBytes track = (k : ℕ) → get_or track k 0 < 256

-- a place before the end is its own
pub byte_within : (track : List ℕ) (place : ℕ) → place < length track → get_or track place 0 ≡ byte_on track place
unfolding byte_on
byte_within track place h = sym (ap (λ (k : ℕ). get_or track k 0) (mod-eq_of_lt h))

pub byte_round : (track : List ℕ) (place : ℕ) → get_or track (place % length track) 0 ≡ byte_on track place
unfolding byte_on
byte_round track place = refl

-- a place and one some rounds further on
pub byte_rounds : (track : List ℕ) (place far k : ℕ) → place < length track → far ≡ place + length track * k → get_or track place 0 ≡ byte_on track far
unfolding byte_on
byte_rounds track place far k h is =
    sym (ap (λ (x : ℕ). get_or track x 0) (ap (λ (x : ℕ). x % length track) is ∙ add-mul-mod_self_left place (length track) k ∙ mod-eq_of_lt h))

pub byte_below : (track : List ℕ) (place : ℕ) → AreBytes track → byte_on track place < 256
unfolding byte_on
byte_below track place are = are (place % length track)

-- places that are whole rounds apart have one bit
bit_round : (track : List ℕ) (p q k : ℕ) → p ≡ q + 8 * (length track * k) → bit_on track p ≡ bit_on track q
unfolding bit_on byte_on
bit_round track p q k apart =
    let on : p / 8 ≡ q / 8 + length track * k = omega arith in
    let bit : p % 8 ≡ q % 8 = omega arith in
    ap (λ (x : ℕ). bit_at (get_or track (p / 8 % length track) 0) (7 - x)) bit
    ∙ ap (λ (x : ℕ). bit_at (get_or track (x % length track) 0) (7 - q % 8)) on
    ∙ ap (λ (x : ℕ). bit_at (get_or track x 0) (7 - q % 8)) (add-mul-mod_self_left (q / 8) (length track) k)

pub bits_round : (track : List ℕ) (p q k count : ℕ) → p ≡ q + 8 * (length track * k) → bits_from track p count ≡ bits_from track q count
unfolding bits_from
bits_round track p q k zero apart = refl
bits_round track p q k (suc count) apart =
    let further : p + count ≡ (q + count) + 8 * (length track * k) = omega arith in
    ap₂ (λ (x y : ℕ). 2 * x + y) (bits_round track p q k count apart) (bit_round track (p + count) (q + count) k further)

-- a place counted round has the bits of the place
pub bits_around : (track : List ℕ) (p count : ℕ) → bits_from track (p % (8 * length track)) count ≡ bits_from track p count
bits_around track p count =
    let all = mod-add-div' p (8 * length track) in
    let turned : p / (8 * length track) * (8 * length track) ≡ 8 * (length track * (p / (8 * length track))) = turn (p / (8 * length track)) (length track) in
    sym (bits_round track p (p % (8 * length track)) (p / (8 * length track)) count (sym all ∙ ap (λ (x : ℕ). p % (8 * length track) + x) turned))
  where
    turn : (a b : ℕ) → a * (8 * b) ≡ 8 * (b * a)
    turn a b = grind arith

-- three bytes from a place on, as one number
abbrev pub three : List ℕ → ℕ → ℕ
three track place = 65536 * byte_on track place + 256 * byte_on track (place + 1) + byte_on track (place + 2)

-- each of their bits is one of the circle
bit_of_three : (track : List ℕ) (place m : ℕ) → AreBytes track → m < 24 → bit_on track (8 * place + m) ≡ bit_at (three track place) (23 - m)
unfolding bit_on
bit_of_three track place m are h =
    let a = byte_on track place in
    let b = byte_on track (place + 1) in
    let c = byte_on track (place + 2) in
    let b_fits : b < 256 = byte_below track (place + 1) are in
    let c_fits : c < 256 = byte_below track (place + 2) are in
    let low_fits : b * 2 ^ 8 + c < 2 ^ 16 = omega arith in
    let first : three track place ≡ a * 2 ^ 16 + (b * 2 ^ 8 + c) = omega arith in
    elim (cases_lt m 8) [
      | inl in_first ↦
          let on : (8 * place + m) / 8 ≡ place = omega arith in
          let bit : 7 - (8 * place + m) % 8 ≡ 23 - m - 16 = omega arith in
          ap₂ (λ (x y : ℕ). bit_at (byte_on track x) y) on bit
          ∙ sym (bit_at_cat_high a 16 (b * 2 ^ 8 + c) (23 - m) low_fits (omega arith))
          ∙ ap (λ (x : ℕ). bit_at x (23 - m)) (sym first)
      | inr later ↦ elim (cases_lt m 16) [
        | inl in_second ↦
            let on : (8 * place + m) / 8 ≡ place + 1 = omega arith in
            let bit : 7 - (8 * place + m) % 8 ≡ 23 - m - 8 = omega arith in
            ap₂ (λ (x y : ℕ). bit_at (byte_on track x) y) on bit
            ∙ sym (bit_at_cat_high b 8 c (23 - m) c_fits (omega arith))
            ∙ sym (bit_at_cat_low a 16 (b * 2 ^ 8 + c) (23 - m) (omega arith))
            ∙ ap (λ (x : ℕ). bit_at x (23 - m)) (sym first)
        | inr last ↦
            let on : (8 * place + m) / 8 ≡ place + 2 = omega arith in
            let bit : 7 - (8 * place + m) % 8 ≡ 23 - m = omega arith in
            ap₂ (λ (x y : ℕ). bit_at (byte_on track x) y) on bit
            ∙ sym (bit_at_cat_low b 8 c (23 - m) (omega arith))
            ∙ sym (bit_at_cat_low a 16 (b * 2 ^ 8 + c) (23 - m) (omega arith))
            ∙ ap (λ (x : ℕ). bit_at x (23 - m)) (sym first)
      ]
    ]

-- a run of bits in the three bytes is their number shifted down, and cut off
pub bits_of_three : (track : List ℕ) (place r n : ℕ) → AreBytes track → r + n ≤ 24
    → bits_from track (8 * place + r) n ≡ three track place / 2 ^ (24 - r - n) % 2 ^ n
unfolding bits_from
bits_of_three track place r zero are h = let e : 0 ≡ three track place / 2 ^ (24 - r - zero) % 1 = omega arith in e
bits_of_three track place r (suc n) are h =
    let w = three track place in
    let k = 24 - r - suc n in
    let before : 24 - r - n ≡ k + 1 = omega arith in
    let bit : 23 - (r + n) ≡ k = omega arith in
    let along : 8 * place + r + n ≡ 8 * place + (r + n) = omega arith in
    ap₂ (λ (x y : ℕ). 2 * x + y)
    (bits_of_three track place r n are (omega arith) ∙ ap (λ (x : ℕ). w / 2 ^ x % 2 ^ n) before ∙ ap (λ (x : ℕ). x % 2 ^ n) (sym (shr-shr w k 1)))
    (ap (bit_on track) along ∙ bit_of_three track place (r + n) are (omega arith) ∙ ap (bit_at w) bit)
    ∙ joins (w / 2 ^ k) n
  where
    joins : (x n : ℕ) → 2 * (x / 2 ^ 1 % 2 ^ n) + x % 2 ≡ x % 2 ^ suc n
    joins x n =
        let e = mod-pow-add x n 1 in
        let turned : 2 * (x / 2 ^ 1 % 2 ^ n) + x % 2 ≡ (x / 2 ^ 1 % 2 ^ n) * 2 ^ 1 + x % 2 ^ 1 = omega arith in
        let same : n + 1 ≡ suc n = omega arith in
        turned ∙ sym e ∙ ap (λ (y : ℕ). x % 2 ^ y) same
