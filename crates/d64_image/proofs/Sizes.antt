-- how many blocks and tracks an image has
use Rattle.std.proofs.Common.{ℕ, ◌+◌, ◌<◌, ◌≤◌, sym, subst, inl, inr, arith}
use Rattle.d64_image.specs.Block.{sectors_on, first_block}
use Rattle.d64_image.specs.Image.{IsSize, tracks_of}
use Rattle.d64_image.proofs.Zones.{counted_up_to, first_block-fourth_zone}

-- an image has the blocks of 35 tracks at least
pub size_least : (count : ℕ) → IsSize count → 683 ≤ count
size_least count size = elim size [ inl fewer ↦ omega arith | inr all ↦ omega arith ]

-- and those of 40 tracks at most
pub size_most : (count : ℕ) → IsSize count → count ≤ 768
size_most count size = elim size [ inl fewer ↦ omega arith | inr all ↦ omega arith ]

-- how many tracks
pub tracks_least : (count : ℕ) → IsSize count → 35 ≤ tracks_of count
tracks_least count size = elim size [ inl fewer ↦ subst (λ (n : ℕ). 35 ≤ tracks_of n) (sym fewer) (omega arith) | inr all ↦ subst (λ (n : ℕ). 35 ≤ tracks_of n) (sym all) (omega arith) ]

pub tracks_most : (count : ℕ) → IsSize count → tracks_of count ≤ 40
tracks_most count size = elim size [ inl fewer ↦ subst (λ (n : ℕ). tracks_of n ≤ 40) (sym fewer) (omega arith) | inr all ↦ subst (λ (n : ℕ). tracks_of n ≤ 40) (sym all) (omega arith) ]

-- the image has the blocks of its tracks
pub counted_within : (count track sector : ℕ) → IsSize count → track ≤ tracks_of count → sector < sectors_on track → first_block track + sector < count
counted_within count track sector size within held = elim size [
  | inl fewer ↦
      let most : track ≤ 35 = subst (λ (n : ℕ). track ≤ tracks_of n) fewer within in
      let b = counted_up_to 36 track sector (omega arith) (omega arith) (omega arith) held in
      omega arith
  | inr all ↦
      let most : track ≤ 40 = subst (λ (n : ℕ). track ≤ tracks_of n) all within in
      let b = counted_up_to 41 track sector (omega arith) (omega arith) (omega arith) held in
      omega arith
]

-- and it has no block of the tracks beyond
pub tracks_counted : (count track : ℕ) → IsSize count → tracks_of count < track → track < 41 → count ≤ first_block track
tracks_counted count track size beyond few = elim size [
  | inl fewer ↦
      let least : 35 < track = subst (λ (n : ℕ). tracks_of n < track) fewer beyond in
      let e = first_block-fourth_zone track (omega arith) (omega arith) in
      omega arith
  | inr all ↦
      let least : 40 < track = subst (λ (n : ℕ). tracks_of n < track) all beyond in
      absurd (omega arith)
]
