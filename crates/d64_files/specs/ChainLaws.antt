-- What follows from the definition of a chain.
use Rattle.std.specs.Prelude.{◌≡◌, ◌≢◌, ◌↔◌, ℕ, ◌<◌, ◌≤◌, nat_eq, [], ◌∷◌, length, All, Contains}
use Rattle.std.specs.List.{IsDistinct}
use Rattle.d64_image.specs.Disk.{Disk, Blocks}
use Rattle.d64_files.specs.Chain.{Chain, chain, link_at}

-- there is at most one chain from a block
abbrev pub AtMostOneChain : Type 0
AtMostOneChain = (image : Disk) (start : ℕ) (blocks others : Blocks) → Chain image start blocks → Chain image start others → blocks ≡ others

-- the function gives the chain of the relation, or the empty list if there is no chain
abbrev pub ChainIsThatChain : Type 0
ChainIsThatChain = (image : Disk) (start : ℕ) (blocks : Blocks) → Chain image start blocks ↔ ((chain image start ≡ blocks) × (blocks ≢ []))

-- a chain begins with its start
abbrev pub ChainBeginsWithItsStart : Type 0
ChainBeginsWithItsStart = (image : Disk) (start : ℕ) (blocks : Blocks) → Chain image start blocks → (rest : Blocks) × (blocks ≡ start ∷ rest)

-- no block comes twice in a chain
abbrev pub ChainHasNoRepeats : Type 0
ChainHasNoRepeats = (image : Disk) (start : ℕ) (blocks : Blocks) → Chain image start blocks → IsDistinct nat_eq blocks

-- a chain has only blocks of the image
abbrev pub ChainLiesInImage : Type 0
ChainLiesInImage = (image : Disk) (start : ℕ) (blocks : Blocks) → Chain image start blocks → All (λ block. block < length image) blocks

-- a chain is at most as long as the image has blocks
abbrev pub ChainFitsImage : Type 0
ChainFitsImage = (image : Disk) (start : ℕ) (blocks : Blocks) → Chain image start blocks → length blocks ≤ length image

-- two images have the same links in these blocks
abbrev pub LinkedAlike : Disk → Disk → Blocks → Type 0
LinkedAlike image other blocks = (block : ℕ) → Contains blocks block → link_at other block ≡ link_at image block

-- an image of the same length with the same links in the blocks of a chain has that chain too
abbrev pub SameLinksSameChain : Type 0
SameLinksSameChain =
    (image other : Disk) (start : ℕ) (blocks : Blocks)
    → Chain image start blocks → length other ≡ length image → LinkedAlike image other blocks → Chain other start blocks

-- and the function gives the same for both
abbrev pub SameLinksSameFunction : Type 0
SameLinksSameFunction =
    (image other : Disk) (start : ℕ)
    → chain image start ≢ [] → length other ≡ length image → LinkedAlike image other (chain image start) → chain other start ≡ chain image start
