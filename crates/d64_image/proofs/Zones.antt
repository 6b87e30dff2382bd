-- the first block of a track, zone by zone
use Rattle.std.proofs.Common.{◌≡◌, ℕ, zero, suc, ◌+◌, ◌-◌, ◌*◌, ◌/◌, ◌%◌, ◌<◌, ◌≤◌, ◌==◌, ◌&&◌, Bool, true, cond, ltb, get_or, refl, sym, ap, ◌∙◌, inl, inr, arith}
use Rattle.std.proofs.lemmas.Bool.Decides.{Decides-below_and, Decides-eqb, nat_tests}
use Rattle.std.proofs.lemmas.Bool.{cases_lt}
use Rattle.d64_image.specs.Block.{sectors_on, first_block}
use Rattle.d64_image.specs.Laws.{EachSizeHasItsTracks}
use Rattle.d64_image.specs.Zone.{LiesIn}
use Rattle.d64_image.specs.declared.block.TheConstants.{TRACK_STARTS}

-- whether a test holds of each number below n
abbrev all_below : (ℕ → Bool) → ℕ → Bool
all_below p zero = true
all_below p (suc n) = p n && all_below p n

-- two functions that agree in a test below n are equal there
pub equal_below : (f g : ℕ → ℕ) (n : ℕ) → all_below (λ k. f k == g k) n ≡ true → (k : ℕ) → k < n → f k ≡ g k
equal_below f g n tested =
    (Decides-below_and (λ k. f k == g k) (λ k. f k ≡ g k) (all_below (λ k. f k == g k)) (λ k. Decides-eqb (f k) (g k)) refl (λ _. refl) n).0 tested

-- the first block of a track by its zone
abbrev zoned : ℕ → ℕ
zoned t =
    cond (ltb t 18) ((t - 1) * 21) (cond (ltb t 25) (357 + (t - 18) * 19) (cond (ltb t 31) (490 + (t - 25) * 18) (598 + (t - 31) * 17)))

-- that is the first block, as a test of each track shows
first_block-zoned : (t : ℕ) → t < 42 → first_block t ≡ zoned t
unfolding first_block
first_block-zoned t h = equal_below first_block zoned 42 refl t h

-- the first block of a track of each zone
pub first_block-first_zone : (t : ℕ) → t < 18 → first_block t ≡ (t - 1) * 21
first_block-first_zone t h = let e = first_block-zoned t (omega arith) in grind (arith, nat_tests)

pub first_block-second_zone : (t : ℕ) → 18 ≤ t → t < 25 → first_block t ≡ 357 + (t - 18) * 19
first_block-second_zone t l h = let e = first_block-zoned t (omega arith) in grind (arith, nat_tests)

pub first_block-third_zone : (t : ℕ) → 25 ≤ t → t < 31 → first_block t ≡ 490 + (t - 25) * 18
first_block-third_zone t l h = let e = first_block-zoned t (omega arith) in grind (arith, nat_tests)

pub first_block-fourth_zone : (t : ℕ) → 31 ≤ t → t < 42 → first_block t ≡ 598 + (t - 31) * 17
first_block-fourth_zone t l h = let e = first_block-zoned t (omega arith) in grind (arith, nat_tests)

-- how many sectors a track of each zone has
pub sectors_on-first_zone : (t : ℕ) → t < 18 → sectors_on t ≡ 21
sectors_on-first_zone t h = grind (arith, nat_tests)

pub sectors_on-second_zone : (t : ℕ) → 18 ≤ t → t < 25 → sectors_on t ≡ 19
sectors_on-second_zone t l h = grind (arith, nat_tests)

pub sectors_on-third_zone : (t : ℕ) → 25 ≤ t → t < 31 → sectors_on t ≡ 18
sectors_on-third_zone t l h = grind (arith, nat_tests)

pub sectors_on-fourth_zone : (t : ℕ) → 31 ≤ t → sectors_on t ≡ 17
sectors_on-fourth_zone t l = grind (arith, nat_tests)

-- a block has a legal pair from which it is counted
pub record Placed (block : ℕ) : Type 0 where
  pub track : ℕ
  pub sector : ℕ
  pub from_one : 1 ≤ track
  pub within : track < 41
  pub held : sector < sectors_on track
  pub counted : first_block track + sector ≡ block

-- each block of each zone has its pair
placed_in_first : (k : ℕ) → k < 357 → Placed k
placed_in_first k h =
    let t : k / 21 < 17 = omega arith in
    let e = first_block-first_zone (k / 21 + 1) (omega arith) in
    let s = sectors_on-first_zone (k / 21 + 1) (omega arith) in
    record { track = k / 21 + 1; sector = k % 21; from_one = omega arith; within = omega arith; held = omega arith; counted = omega arith }

placed_in_second : (k : ℕ) → 357 ≤ k → k < 490 → Placed k
placed_in_second k l h =
    let j : ℕ = k - 357 in
    let t : j / 19 < 7 = omega arith in
    let e = first_block-second_zone (18 + j / 19) (omega arith) (omega arith) in
    let s = sectors_on-second_zone (18 + j / 19) (omega arith) (omega arith) in
    record { track = 18 + j / 19; sector = j % 19; from_one = omega arith; within = omega arith; held = omega arith; counted = omega arith }

placed_in_third : (k : ℕ) → 490 ≤ k → k < 598 → Placed k
placed_in_third k l h =
    let j : ℕ = k - 490 in
    let t : j / 18 < 6 = omega arith in
    let e = first_block-third_zone (25 + j / 18) (omega arith) (omega arith) in
    let s = sectors_on-third_zone (25 + j / 18) (omega arith) (omega arith) in
    record { track = 25 + j / 18; sector = j % 18; from_one = omega arith; within = omega arith; held = omega arith; counted = omega arith }

placed_in_fourth : (k : ℕ) → 598 ≤ k → k < 768 → Placed k
placed_in_fourth k l h =
    let j : ℕ = k - 598 in
    let t : j / 17 < 10 = omega arith in
    let e = first_block-fourth_zone (31 + j / 17) (omega arith) (omega arith) in
    let s = sectors_on-fourth_zone (31 + j / 17) (omega arith) in
    record { track = 31 + j / 17; sector = j % 17; from_one = omega arith; within = omega arith; held = omega arith; counted = omega arith }

-- each block has its pair
pub placed : (k : ℕ) → k < 768 → Placed k
placed k h =
    elim (cases_lt k 357) [
      | inl a ↦ placed_in_first k a
      | inr a ↦ elim (cases_lt k 490) [
        | inl b ↦ placed_in_second k a b
        | inr b ↦ elim (cases_lt k 598) [ inl c ↦ placed_in_third k b c | inr c ↦ placed_in_fourth k c h ]
      ]
    ]

-- no track below the n-th reaches past the blocks of these tracks
pub counted_up_to : (n t s : ℕ) → 31 ≤ n → n < 42 → t < n → s < sectors_on t → first_block t + s < 598 + (n - 31) * 17
counted_up_to n t s l m h k =
    elim (cases_lt t 18) [
      | inl a ↦ let e = first_block-first_zone t a in let n = sectors_on-first_zone t a in omega arith
      | inr a ↦ elim (cases_lt t 25) [
        | inl b ↦ let e = first_block-second_zone t a b in let n = sectors_on-second_zone t a b in omega arith
        | inr b ↦ elim (cases_lt t 31) [
          | inl c ↦ let e = first_block-third_zone t b c in let n = sectors_on-third_zone t b c in omega arith
          | inr c ↦ let e = first_block-fourth_zone t c (omega arith) in let n = sectors_on-fourth_zone t c in omega arith
        ]
      ]
    ]

-- no track reaches past the last block
pub counted_below : (t s : ℕ) → t < 41 → s < sectors_on t → first_block t + s < 768
counted_below t s h k = counted_up_to 41 t s (omega arith) (omega arith) h k

-- each track begins at a block of the disk
pub first_block_below : (t : ℕ) → t < 41 → first_block t < 768
first_block_below t h = let some : 0 < sectors_on t = grind (arith, nat_tests) in let b = counted_below t 0 h some in omega arith

-- an image has the blocks of its tracks
pub all_blocks : EachSizeHasItsTracks
unfolding first_block
all_blocks count size = elim size [
  | inl fewer ↦ rw fewer refl
  | inr all ↦ rw all refl
]

-- a track ends where the next one begins
track_end : (t : ℕ) → 1 ≤ t → t < 41 → first_block (t + 1) ≡ first_block t + sectors_on t
unfolding first_block
track_end t l h =
    let next : t + 1 ≡ t - 1 + 2 = omega arith in
    let same : t - 1 + 1 ≡ t = omega arith in
    ap first_block next ∙ equal_below (λ k. first_block (k + 2)) (λ k. first_block (k + 1) + sectors_on (k + 1)) 40 refl (t - 1) (omega arith)
    ∙ ap (λ (n : ℕ). first_block n + sectors_on n) same

-- the table has the block at which each track begins, and at which the last one ends
pub starts_at : (t place : ℕ) → place ≡ t → t < 42 → get_or TRACK_STARTS place 0 ≡ first_block t
unfolding first_block
starts_at t place e h =
    ap (λ (k : ℕ). get_or TRACK_STARTS k 0) e ∙ equal_below (λ k. get_or TRACK_STARTS k 0) first_block 42 refl t h

pub ends_at : (t place : ℕ) → place ≡ t → 1 ≤ t → t < 41 → get_or TRACK_STARTS (place + 1) 0 ≡ first_block t + sectors_on t
ends_at t place e l h = starts_at (t + 1) (place + 1) (omega arith) (omega arith) ∙ track_end t l h

-- each zone's tracks lie in it

pub lies_in_first : (t : ℕ) → 1 ≤ t → t < 18 → LiesIn record { first_track = 1; first_block = 0; sectors = 21 } t
lies_in_first t l h =
    record { starts = l; within = omega arith; sectors = sym (sectors_on-first_zone t h); few = omega arith; first = let e = first_block-first_zone t h in omega arith }

pub lies_in_second : (t : ℕ) → 18 ≤ t → t < 25 → LiesIn record { first_track = 18; first_block = 357; sectors = 19 } t
lies_in_second t l h =
    record { starts = l; within = omega arith; sectors = sym (sectors_on-second_zone t l h); few = omega arith; first = first_block-second_zone t l h }

pub lies_in_third : (t : ℕ) → 25 ≤ t → t < 31 → LiesIn record { first_track = 25; first_block = 490; sectors = 18 } t
lies_in_third t l h =
    record { starts = l; within = omega arith; sectors = sym (sectors_on-third_zone t l h); few = omega arith; first = first_block-third_zone t l h }

pub lies_in_fourth : (t : ℕ) → 31 ≤ t → t < 41 → LiesIn record { first_track = 31; first_block = 598; sectors = 17 } t
lies_in_fourth t l h =
    record { starts = l; within = h; sectors = sym (sectors_on-fourth_zone t l); few = omega arith; first = first_block-fourth_zone t l (omega arith) }
