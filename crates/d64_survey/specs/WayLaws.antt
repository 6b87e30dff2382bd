-- What follows from the definition of a way.
use Rattle.std.specs.Prelude.{◌≡◌, ◌≢◌, ◌↔◌, ℕ, ◌<◌, ◌≤◌, nat_eq, [], length, Some, All}
use Rattle.std.specs.List.{IsDistinct}
use Rattle.d64_image.specs.Disk.{Disk}
use Rattle.d64_files.specs.Ownership.{chain_at}
use Rattle.d64_survey.specs.Way.{way, block_at}
use Rattle.d64_survey.specs.declared.way_end.WayEnd.TheVariants.{End}

-- a way ends after a last block exactly if there is a chain
abbrev pub WayThatEndsIsTheChain : Type 0
WayThatEndsIsTheChain = (image : Disk) (pair : ℕ × ℕ) → ((way image pair).1 ≡ End) ↔ (chain_at image pair ≢ [])

-- if a way ends after a last block, it is the chain
abbrev pub ChainIsTheWay : Type 0
ChainIsTheWay = (image : Disk) (pair : ℕ × ℕ) → (way image pair).1 ≡ End → chain_at image pair ≡ (way image pair).0

-- no block comes twice in a way
abbrev pub WayHasNoRepeats : Type 0
WayHasNoRepeats = (image : Disk) (pair : ℕ × ℕ) → IsDistinct nat_eq (way image pair).0

-- a way has only blocks of the image
abbrev pub WayLiesInImage : Type 0
WayLiesInImage = (image : Disk) (pair : ℕ × ℕ) → All (λ block. block < length image) (way image pair).0

-- a way is at most as long as the image has blocks
abbrev pub WayFitsImage : Type 0
WayFitsImage = (image : Disk) (pair : ℕ × ℕ) → length (way image pair).0 ≤ length image

-- pairs that name the same block lead the same way
abbrev pub WaysFromABlockAreOne : Type 0
WaysFromABlockAreOne = (image : Disk) (pair other : ℕ × ℕ) (block : ℕ) → block_at image pair ≡ Some block → block_at image other ≡ Some block → way image pair ≡ way image other
