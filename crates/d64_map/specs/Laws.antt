-- what follows from the definitions of the map and of the search
use Rattle.std.specs.Prelude.{◌≡◌, ◌≢◌, ℕ, ◌<◌, ◌&&◌, nat_lt, nat_le, nat_eq, true, false, length, slice_index, find, All, Some, is_some, MatchOption}
use Rattle.std.specs.List.{IsDistinct}
use Rattle.std.specs.FinSet as set
use Rattle.d64_image.specs.Disk.{Disk, Blocks}
use Rattle.d64_image.specs.BlockSet.{BlockSet, MembersAreBelow}
use Rattle.d64_image.specs.declared.block.TheConstants.{BLOCKS}
use Rattle.d64_image.specs.Image.{IsImage, tracks_of, sector_at}
use Rattle.d64_image.specs.Block.{pair_at}
use Rattle.d64_map.specs.Map.{map_block, is_free, free_blocks, CountsFit, is_entry, with_map}
use Rattle.d64_map.specs.Search.{dir_order}
use Rattle.d64_map.specs.Plan.{plan, room}

-- the free blocks are the image's blocks whose bit is 1
abbrev pub FreeBlocksHaveTheirBit : Type 0
FreeBlocksHaveTheirBit = (image : Disk) (block : ℕ) → set.contains (free_blocks image) block ≡ (nat_lt block (length image) && is_free image block)

-- the map that is written for a set marks exactly that set free
abbrev pub MapIsTheSet : Type 0
MapIsTheSet =
    (image : Disk) (free : BlockSet) → IsImage image → MembersAreBelow (length image) free → free_blocks (with_map image free) ≡ free

-- the counts of a map that is written for a set fit its bits
abbrev pub WrittenCountsFit : Type 0
WrittenCountsFit =
    (image : Disk) (free : BlockSet) → IsImage image → MembersAreBelow (length image) free → CountsFit (with_map image free)

-- writing the map gives an image with the same other blocks, and in the map's block the same bytes
-- outside the entries
abbrev pub OnlyEntriesChange : Type 0
OnlyEntriesChange =
    (image : Disk) (free : BlockSet)
    → IsImage image
    → IsImage (with_map image free)
    × ((block : ℕ) → block ≢ map_block → sector_at (with_map image free) block ≡ sector_at image block)
    × ((place : ℕ) → is_entry (tracks_of (length image)) place ≡ false → slice_index (sector_at (with_map image free) map_block) place ≡ slice_index (sector_at image map_block) place)

-- a free block outside track 18
abbrev pub IsFreeForFiles : BlockSet → ℕ → Type 0
IsFreeForFiles free block = (set.contains free block ≡ true) × (block < BLOCKS) × ((pair_at block).0 ≢ 18)

-- a plan has as many blocks as are asked for, and they are distinct, free, and outside track 18
abbrev pub PlanTakesFreeBlocks : Type 0
PlanTakesFreeBlocks =
    (free : BlockSet) (count : ℕ) (taken : Blocks)
    → plan free count ≡ Some taken
    → (length taken ≡ count) × All (IsFreeForFiles free) taken × IsDistinct nat_eq taken

-- there is a plan exactly if enough blocks outside track 18 are free
abbrev pub PlanIsThere : Type 0
PlanIsThere = (free : BlockSet) (count : ℕ) → is_some (plan free count) ≡ nat_le count (room free)

-- a free block of track 18
abbrev pub IsFreeForDirectory : BlockSet → ℕ → Type 0
IsFreeForDirectory free block = (set.contains free block ≡ true) × (block < BLOCKS) × ((pair_at block).0 ≡ 18)

-- the block chosen for the directory is a free block of track 18; if there is no such block, none
-- is chosen
abbrev pub DirPickIsOnTrack18 : Type 0
DirPickIsOnTrack18 =
    (free : BlockSet) (last : ℕ)
    → MatchOption (find (set.contains free) (dir_order last)) ((block : ℕ) → ¬ IsFreeForDirectory free block) (λ block. IsFreeForDirectory free block)
