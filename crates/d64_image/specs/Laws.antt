-- what follows from the definitions of blocks, images and sets of blocks
use Rattle.std.specs.Prelude.{◌≡◌, ◌≢◌, ◌↔◌, ℕ, ◌+◌, ◌<◌, [], Some, length, Contains, IsTrue}
use Rattle.std.specs.FinSet as set
use Rattle.d64_image.specs.Disk.{Disk}
use Rattle.d64_image.specs.BlockSet.{BlockSet, same_members}
use Rattle.d64_image.specs.declared.block.TheConstants.{BLOCKS}
use Rattle.d64_image.specs.Block.{IsLegal, first_block, pair_at, block_of}
use Rattle.d64_image.specs.Image.{IsSize, tracks_of, sector_at, differences}
use Rattle.d64_image.specs.Patch.{restored_image, changed_blocks}

-- each block has a legal pair of track and sector, and is the block of that pair
abbrev pub EachBlockHasItsPair : Type 0
EachBlockHasItsPair = (block : ℕ) → block < BLOCKS → IsLegal (pair_at block).0 (pair_at block).1 × (block_of (pair_at block).0 (pair_at block).1 ≡ Some block)

-- each legal pair has a block, which is counted from the track's first block
abbrev pub EachLegalPairHasItsBlock : Type 0
EachLegalPairHasItsBlock =
    (track sector : ℕ)
    → IsLegal track sector
    → (block_of track sector ≡ Some (first_block track + sector)) × (first_block track + sector < BLOCKS) × (pair_at (first_block track + sector) ≡ (track, sector))

-- only a legal pair has a block, and that block has this pair
abbrev pub OnlyLegalPairsHaveBlocks : Type 0
OnlyLegalPairsHaveBlocks =
    (track sector block : ℕ) → block_of track sector ≡ Some block → IsLegal track sector × (block < BLOCKS) × (pair_at block ≡ (track, sector))

-- an image has exactly the blocks of its tracks
abbrev pub EachSizeHasItsTracks : Type 0
EachSizeHasItsTracks = (count : ℕ) → IsSize count → first_block (tracks_of count + 1) ≡ count

-- the list of differences has exactly the blocks in which two images differ
abbrev pub DifferencesDecide : Type 0
DifferencesDecide =
    (image other : Disk) (block : ℕ) → Contains (differences image other) block ↔ ((block < length image) × (sector_at image block ≢ sector_at other block))

-- images of the same length that differ in no block are equal
abbrev pub AlikeImagesAreEqual : Type 0
AlikeImagesAreEqual = (image other : Disk) → length image ≡ length other → differences image other ≡ [] → image ≡ other

-- sets with the same members are equal
abbrev pub AlikeSetsAreEqual : Type 0
AlikeSetsAreEqual = (blocks others : BlockSet) → ((block : ℕ) → set.contains blocks block ≡ set.contains others block) → blocks ≡ others

-- the comparison of two sets says whether they are equal
abbrev pub SameMembersDecides : Type 0
SameMembersDecides = (blocks others : BlockSet) → IsTrue (same_members blocks others) ↔ (blocks ≡ others)

-- putting back a patch that keeps no block changes nothing
abbrev pub EmptyPatchPutsNothingBack : Type 0
EmptyPatchPutsNothingBack = (image : Disk) → restored_image image [] ≡ image

-- putting back all blocks that changed gives the image from before
abbrev pub ChangesPutBack : Type 0
ChangesPutBack = (before after : Disk) → length before ≡ length after → restored_image after (changed_blocks before after) ≡ before

-- the patch of all changes keeps as many blocks as differ
abbrev pub ChangesCount : Type 0
ChangesCount = (before after : Disk) → length (changed_blocks before after) ≡ length (differences before after)
