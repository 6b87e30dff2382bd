-- The starts of a track, byte by byte
use Rattle.std.proofs.Common.{◌≡◌, ℕ, zero, suc, ◌+◌, ◌-◌, ◌*◌, ◌/◌, ◌%◌, ◌^◌, ◌<◌, ◌≤◌, Bool, true, false, cond, List, [], ◌∷◌, ◌++◌, length, get_or, refl, sym, ap, ◌∙◌, subst, inl, inr, arith}
use Rattle.std.specs.Prelude.{◌⊎◌, ◌==◌, filter, All}
use Rattle.std.specs.List.{range_with_len}
use Rattle.std.proofs.lemmas.Bool.{cases_Bool, cases_order}
use Rattle.std.proofs.lemmas.Bool.Decides.{eqb_tells}
use Rattle.std.proofs.lemmas.List.Elements.{filter-append, All-filter, All-get_or}
use Rattle.std.proofs.lemmas.List.FromFn.{length-range_with_len, get_or-range_with_len}
use Rattle.std.proofs.Math.Nat.{pow-le-pow_right, add-mul-mod_self_left, mod-eq_of_lt}
use Rattle.d64_g64.specs.Circle.{byte_on, bits_from}
use Rattle.d64_g64.specs.Starts.{before, is_start, starts_in, starts_on}
use Rattle.d64_g64.proofs.Circles.{AreBytes, three, bits_of_three, bits_round, byte_below, byte_round, byte_within}

-- a range in two parts
pub range-append : (a m n : ℕ) → range_with_len a (m + n) ≡ range_with_len a m ++ range_with_len (a + m) n
range-append a zero n = let e : a + 0 ≡ a = omega arith in let f : 0 + n ≡ n = omega arith in ap (range_with_len a) f ∙ ap (λ (x : ℕ). range_with_len x n) (sym e)
range-append a (suc m) n =
    let e : suc m + n ≡ suc (m + n) = omega arith in
    let f : a + 1 + m ≡ a + suc m = omega arith in
    ap (range_with_len a) e ∙ ap (λ (xs : List ℕ). a ∷ xs) (range-append (a + 1) m n ∙ ap (λ (x : ℕ). range_with_len (a + 1) m ++ range_with_len x n) f)

-- the numbers of a range are below its end
pub range_below : (a n end : ℕ) → a + n ≤ end → All (λ x. x < end) (range_with_len a n)
range_below a n end h = λ k d within.
    let held : k < n = subst (λ (x : ℕ). k < x) (length-range_with_len a n) within in
    subst (λ (x : ℕ). x < end) (sym (get_or-range_with_len a n k d held)) (omega arith)

-- no number of a range passes
filter_none : (p : ℕ → Bool) (a n : ℕ) → ((m : ℕ) → m < n → p (a + m) ≡ false) → filter p (range_with_len a n) ≡ []
filter_none p a zero none = refl
filter_none p a (suc n) none =
    let e : a + 0 ≡ a = omega arith in
    ap (λ (b : Bool). cond b (a ∷ filter p (range_with_len (a + 1) n)) (filter p (range_with_len (a + 1) n))) (ap p (sym e) ∙ none 0 (omega arith))
    ∙ filter_none p (a + 1) n (λ m h. let f : a + 1 + m ≡ a + suc m = omega arith in ap p f ∙ none (suc m) (omega arith))

-- no number of a range passes but perhaps one
filter_one : (p : ℕ → Bool) (a n z : ℕ) → z < n → ((m : ℕ) → m < n → p (a + m) ≡ true → m ≡ z)
    → filter p (range_with_len a n) ≡ cond (p (a + z)) ((a + z) ∷ []) []
filter_one p a zero z h only = absurd (omega arith)
filter_one p a (suc n) zero h only =
    let e : a + 0 ≡ a = omega arith in
    let rest : filter p (range_with_len (a + 1) n) ≡ [] = filter_none p (a + 1) n (λ m below. fails m below) in
    ap (λ (xs : List ℕ). cond (p a) (a ∷ xs) xs) rest ∙ ap (λ (x : ℕ). cond (p x) (x ∷ []) []) (sym e)
  where
    fails : (m : ℕ) → m < n → p (a + 1 + m) ≡ false
    fails m below =
        let f : a + 1 + m ≡ a + suc m = omega arith in
        elim (cases_Bool (p (a + 1 + m))) [
          | inl passes ↦ let same : suc m ≡ zero = only (suc m) (omega arith) (ap p (sym f) ∙ passes) in absurd (omega arith)
          | inr misses ↦ misses
        ]
filter_one p a (suc n) (suc z) h only =
    let e : a + 0 ≡ a = omega arith in
    let g : a + 1 + z ≡ a + suc z = omega arith in
    let first : p a ≡ false = fails in
    ap (λ (b : Bool). cond b (a ∷ filter p (range_with_len (a + 1) n)) (filter p (range_with_len (a + 1) n))) first
    ∙ filter_one p (a + 1) n z (omega arith) (λ m below passes. later m below passes)
    ∙ ap (λ (x : ℕ). cond (p x) (x ∷ []) []) g
  where
    fails : p a ≡ false
    fails =
        let e : a + 0 ≡ a = omega arith in
        elim (cases_Bool (p a)) [
          | inl passes ↦ let same : zero ≡ suc z = only 0 (omega arith) (ap p e ∙ passes) in absurd (omega arith)
          | inr misses ↦ misses
        ]

    later : (m : ℕ) → m < n → p (a + 1 + m) ≡ true → m ≡ z
    later m below passes =
        let f : a + 1 + m ≡ a + suc m = omega arith in
        let same : suc m ≡ suc z = only (suc m) (omega arith) (ap p (sym f) ∙ passes) in omega arith

-- if the eleven bits that end at a place are ten ones and a zero, the last byte lies between
-- these bounds, which are those of its highest zero
bounds : (w m : ℕ) → m < 8 → w / 2 ^ (7 - m) % 2048 ≡ 2046 → (256 - 2 ^ (8 - m) ≤ w % 256) × (w % 256 < 256 - 2 ^ (7 - m))
bounds w zero h is = (omega arith, omega arith)
bounds w (suc zero) h is = (omega arith, omega arith)
bounds w (suc (suc zero)) h is = (omega arith, omega arith)
bounds w (suc (suc (suc zero))) h is = (omega arith, omega arith)
bounds w (suc (suc (suc (suc zero)))) h is = (omega arith, omega arith)
bounds w (suc (suc (suc (suc (suc zero))))) h is = (omega arith, omega arith)
bounds w (suc (suc (suc (suc (suc (suc zero)))))) h is = (omega arith, omega arith)
bounds w (suc (suc (suc (suc (suc (suc (suc zero))))))) h is = (omega arith, omega arith)
bounds w (suc (suc (suc (suc (suc (suc (suc (suc m)))))))) h is = absurd (omega arith)

powers_rise : (i j : ℕ) → i ≤ j → 2 ^ i ≤ 2 ^ j
powers_rise i j h = pow-le-pow_right (let e : zero < 2 = omega arith in e) h

-- so the place is that of the highest zero
pub one_place : (w zero_place m : ℕ) → zero_place < 8 → m < 8 → 256 - 2 ^ (8 - zero_place) ≤ w % 256 → w % 256 < 256 - 2 ^ (7 - zero_place)
    → w / 2 ^ (7 - m) % 2048 ≡ 2046 → m ≡ zero_place
one_place w z m hz hm low high is =
    let b = bounds w m hm is in
    elim (cases_order m z) [
      | inl same ↦ same
      | inr other ↦ elim other [
        | inl less ↦ let gap = powers_rise (8 - z) (7 - m) (omega arith) in absurd (omega (arith, b.0, b.1, low, high, gap, powers_rise (8 - z) 8 (omega arith), powers_rise (7 - m) 8 (omega arith)))
        | inr more ↦ let gap = powers_rise (8 - m) (7 - z) (omega arith) in absurd (omega (arith, b.0, b.1, low, high, gap, powers_rise (8 - m) 8 (omega arith), powers_rise (7 - z) 8 (omega arith)))
      ]
    ]

-- a place is a start if the eleven bits that end there, in three bytes, are ten ones and a zero
pub start_by_bytes : (track : List ℕ) (at back m : ℕ) → AreBytes track → 0 < length track → m < 8
    → ((back ≡ at + 2 * length track - 2) ⊎ (back + 2 * length track ≡ at + 2 * length track - 2))
    → is_start track (8 * at + m) ≡ (three track back / 2 ^ (7 - m) % 2048 == 2046)
unfolding is_start
start_by_bytes track at back m are some h back_is =
    let l = length track in
    let shift : 24 - (m + 6) - 11 ≡ 7 - m = omega arith in
    let far : bits_from track (before track (8 * at + m) 10) 11 ≡ bits_from track (8 * back + (m + 6)) 11 = elim back_is [
      | inl same ↦ ap (λ (x : ℕ). bits_from track x 11) (let e : 8 * at + m + 16 * l - 10 ≡ 8 * back + (m + 6) = omega arith in e)
      | inr round ↦ bits_round track (8 * at + m + 16 * l - 10) (8 * back + (m + 6)) 2 11 (let e : 8 * at + m + 16 * l - 10 ≡ 8 * back + (m + 6) + 8 * (l * 2) = omega arith in e)
    ] in
    ap (λ (x : ℕ). x == 2046) (far ∙ bits_of_three track back (m + 6) 11 are (omega arith) ∙ ap (λ (x : ℕ). three track back / 2 ^ x % 2048) shift)

-- the starts in a byte whose highest zero is known
pub starts_in_byte : (track : List ℕ) (at back z : ℕ) → AreBytes track → 0 < length track → z < 8
    → ((back ≡ at + 2 * length track - 2) ⊎ (back + 2 * length track ≡ at + 2 * length track - 2))
    → 256 - 2 ^ (8 - z) ≤ three track back % 256 → three track back % 256 < 256 - 2 ^ (7 - z)
    → starts_in track at ≡ cond (three track back / 2 ^ (7 - z) % 2048 == 2046) ((8 * at + z) ∷ []) []
unfolding starts_in
starts_in_byte track at back z are some h back_is low high =
    filter_one (is_start track) (8 * at) 8 z h (λ m below passes. one_place (three track back) z m h below low high (eqb_true _ _ (sym (start_by_bytes track at back m are some below back_is) ∙ passes)))
    ∙ ap (λ (b : Bool). cond b ((8 * at + z) ∷ []) []) (start_by_bytes track at back z are some h back_is)
  where
    eqb_true : (a b : ℕ) → (a == b) ≡ true → a ≡ b
    eqb_true a b e = elim (eqb_tells a b) [ inl same ↦ same.1 | inr other ↦ let wrong : true ≡ false = sym e ∙ other.0 in absurd (cc) ]

-- a byte without a zero has no start
pub no_start_in_byte : (track : List ℕ) (at back : ℕ) → AreBytes track → 0 < length track
    → ((back ≡ at + 2 * length track - 2) ⊎ (back + 2 * length track ≡ at + 2 * length track - 2))
    → three track back % 256 ≡ 255 → starts_in track at ≡ []
unfolding starts_in
no_start_in_byte track at back are some back_is full =
    filter_none (is_start track) (8 * at) 8 (λ m below. fails m below)
  where
    fails : (m : ℕ) → m < 8 → is_start track (8 * at + m) ≡ false
    fails m below = elim (eqb_tells (three track back / 2 ^ (7 - m) % 2048) 2046) [
      | inl same ↦ let b = bounds (three track back) m below same.1 in let one : 1 ≤ 2 ^ (7 - m) = powers_rise 0 (7 - m) (omega arith) in absurd (omega (arith, b.1, full, one))
      | inr misses ↦ start_by_bytes track at back m are some below back_is ∙ misses.0
    ]

-- the last of the three bytes
pub last_of_three : (track : List ℕ) (at back : ℕ) → AreBytes track → at < length track
    → ((back ≡ at + 2 * length track - 2) ⊎ (back + 2 * length track ≡ at + 2 * length track - 2))
    → three track back % 256 ≡ get_or track at 0
last_of_three track at back are within back_is =
    let c = byte_on track (back + 2) in
    let fits : c < 256 = byte_below track (back + 2) are in
    let cut : three track back % 256 ≡ c = omega arith in
    let l = length track in
    cut ∙ elim back_is [
      | inl same ↦
          let e : back + 2 ≡ at + l * 2 = omega arith in
          ap (byte_on track) e ∙ sym (byte_round track (at + l * 2)) ∙ ap (λ (x : ℕ). get_or track x 0) (add-mul-mod_self_left at l 2 ∙ mod-eq_of_lt within)
      | inr round ↦
          let e : back + 2 ≡ at = omega arith in
          ap (byte_on track) e ∙ sym (byte_within track at within)
    ]

-- the starts before a byte, and those in it
pub starts_more : (track : List ℕ) (at : ℕ)
    → filter (is_start track) (range_with_len 0 (8 * (at + 1))) ≡ filter (is_start track) (range_with_len 0 (8 * at)) ++ starts_in track at
unfolding starts_in
starts_more track at =
    let e : 8 * (at + 1) ≡ 8 * at + 8 = omega arith in
    let f : 0 + 8 * at ≡ 8 * at = omega arith in
    ap (λ (x : ℕ). filter (is_start track) (range_with_len 0 x)) e
    ∙ ap (filter (is_start track)) (range-append 0 (8 * at) 8)
    ∙ filter-append (is_start track) (range_with_len 0 (8 * at)) (range_with_len (0 + 8 * at) 8)
    ∙ ap (λ (x : ℕ). filter (is_start track) (range_with_len 0 (8 * at)) ++ filter (is_start track) (range_with_len x 8)) f

-- a byte whose predecessor doesn't end in three ones has no start
three_ones : (w m : ℕ) → m < 8 → w / 2 ^ (7 - m) % 2048 ≡ 2046 → w / 256 % 8 ≡ 7
three_ones w zero h is = omega arith
three_ones w (suc zero) h is = omega arith
three_ones w (suc (suc zero)) h is = omega arith
three_ones w (suc (suc (suc zero))) h is = omega arith
three_ones w (suc (suc (suc (suc zero)))) h is = omega arith
three_ones w (suc (suc (suc (suc (suc zero))))) h is = omega arith
three_ones w (suc (suc (suc (suc (suc (suc zero)))))) h is = omega arith
three_ones w (suc (suc (suc (suc (suc (suc (suc zero))))))) h is = omega arith
three_ones w (suc (suc (suc (suc (suc (suc (suc (suc m)))))))) h is = absurd (omega arith)

pub no_start_after : (track : List ℕ) (at : ℕ) → AreBytes track → 0 < length track
    → (byte_on track (at + 2 * length track - 1) % 8 ≡ 7 → ⊥) → [] ≡ starts_in track at
unfolding starts_in
no_start_after track at are some other =
    sym (filter_none (is_start track) (8 * at) 8 (λ m below. fails m below))
  where
    middle : three track (at + 2 * length track - 2) / 256 % 8 ≡ byte_on track (at + 2 * length track - 1) % 8
    middle =
        let b = byte_on track (at + 2 * length track - 2 + 1) in
        let c = byte_on track (at + 2 * length track - 2 + 2) in
        let b_fits : b < 256 = byte_below track (at + 2 * length track - 2 + 1) are in
        let c_fits : c < 256 = byte_below track (at + 2 * length track - 2 + 2) are in
        let e : at + 2 * length track - 2 + 1 ≡ at + 2 * length track - 1 = omega arith in
        let cut : three track (at + 2 * length track - 2) / 256 % 8 ≡ b % 8 = omega arith in
        cut ∙ ap (λ (x : ℕ). byte_on track x % 8) e

    fails : (m : ℕ) → m < 8 → is_start track (8 * at + m) ≡ false
    fails m below = elim (eqb_tells (three track (at + 2 * length track - 2) / 2 ^ (7 - m) % 2048) 2046) [
      | inl same ↦ absurd (other (sym middle ∙ three_ones (three track (at + 2 * length track - 2)) m below same.1))
      | inr misses ↦ start_by_bytes track at (at + 2 * length track - 2) m are some below (inl refl) ∙ misses.0
    ]

-- the starts are places of the circle
pub starts_below : (track : List ℕ) (i : ℕ) → i < length (starts_on track) → get_or (starts_on track) i 0 < 8 * length track
unfolding starts_on
starts_below track i h =
    All-get_or (λ start. start < 8 * length track) (filter (is_start track) (range_with_len 0 (8 * length track))) i 0 h
    (All-filter (is_start track) (λ start. start < 8 * length track) (range_with_len 0 (8 * length track)) (range_below 0 (8 * length track) (8 * length track) (omega arith)))

-- a track with a start has a byte
pub some_byte : (track : List ℕ) (i : ℕ) → i < length (starts_on track) → 0 < length track
some_byte track i h = let low = starts_below track i h in omega arith
