-- the blocks at which the map and the directory begin
use Rattle.std.proofs.Common.{◌≡◌, Some, arith}
use Rattle.d64_image.specs.Block.{block_of, first_block}
use Rattle.d64_image.proofs.Pairs.{block_of-legal}
use Rattle.d64_map.specs.Map.{map_block}
use Rattle.d64_files.specs.Directory.{directory_start}

-- track 18, sector 0 is the map's block
pub map_block-place : block_of 18 0 ≡ Some map_block
unfolding first_block
map_block-place = block_of-legal 18 0 (omega arith) (omega arith) (omega arith)

-- track 18, sector 1 is the directory's first block
pub directory_start-place : block_of 18 1 ≡ Some directory_start
unfolding first_block
directory_start-place = block_of-legal 18 1 (omega arith) (omega arith) (omega arith)
