-- The blocks of a track, and those of them that are members of a set.
use Rattle.std.specs.Prelude.{ℕ, Bool, false, count_by}
use Rattle.std.specs.List.{range_with_len}
use Rattle.std.specs.Option.{option_map_or}
use Rattle.std.specs.FinSet as set
use Rattle.d64_image.specs.Disk.{Blocks}
use Rattle.d64_image.specs.BlockSet.{BlockSet}
use Rattle.d64_image.specs.Block.{sectors_on, first_block, block_of}

-- a track's blocks, by sector
unfoldable pub blocks_on : ℕ → Blocks
blocks_on track = range_with_len (first_block track) (sectors_on track)

-- whether the set has the block of a track's sector
unfoldable pub has_sector : BlockSet → ℕ → ℕ → Bool
has_sector blocks track sector = option_map_or (set.contains blocks) (block_of track sector) false

-- how many members a track has
unfoldable pub members_on : BlockSet → ℕ → ℕ
members_on blocks track = count_by (set.contains blocks) (blocks_on track)
