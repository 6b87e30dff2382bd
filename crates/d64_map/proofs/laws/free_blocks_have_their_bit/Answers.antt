use Rattle.d64_map.proofs.FreeBlocks.{contains-free_blocks-both}
use Rattle.d64_map.proofs.laws.free_blocks_have_their_bit.Goals as goal

pub returns : goal.returns
returns c = contains-free_blocks-both
