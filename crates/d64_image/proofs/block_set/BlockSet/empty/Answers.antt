use Rattle.std.proofs.Common.{replicate, refl}
use Rattle.d64_image.specs.BlockSet.{marked_blocks}
use Rattle.d64_image.proofs.Sets.{marked_blocks-zeros, members_are_blocks}
use Rattle.d64_image.proofs.block_set.BlockSet.empty.Goals as goal

pub returns-clause-value : goal.returns-clause-value
returns-clause-value c = marked_blocks-zeros 24

pub returns-clause-blocks : goal.returns-clause-blocks
returns-clause-blocks c = members_are_blocks (replicate 24 0) (marked_blocks (replicate 24 0)) refl
