use Rattle.d64_merge.proofs.MergedBlocks.{blocks_law, errors_law}
use Rattle.d64_merge.proofs.laws.merged_blocks_are_those_of_dumps.Goals as goal

pub returns-clause-blocks : goal.returns-clause-blocks
returns-clause-blocks c = blocks_law

pub returns-clause-errors : goal.returns-clause-errors
returns-clause-errors c = errors_law
