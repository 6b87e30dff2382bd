use Rattle.std.proofs.Common.{refl}
use Rattle.d64_leftovers.proofs.LeftBlocks.{all_of}
use Rattle.d64_leftovers.proofs.left_blocks.set_of.Goals as goal

pub returns : goal.returns
returns c = all_of c.empty-members.result c.add_all.new.members c.args.blocks.now c.args.blocks.now c.empty-members.ensures.value c.add_all.ensures refl
