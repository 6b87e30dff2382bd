use Rattle.std.proofs.Common.{◌≡◌, Some, IsSome, sym, ◌∙◌, subst, arith, rules}
use Rattle.d64_image.specs.Block.{block_of, first_block}
use Rattle.d64_image.proofs.Pairs.{block_of-legal}
use Rattle.d64_files.specs.Directory.{directory_start}
use Rattle.d64_files.proofs.directory_blocks.directory_block.Goals as goal

place : block_of 18 1 ≡ Some directory_start
unfolding first_block
place = block_of-legal 18 1 (omega arith) (omega arith) (omega arith)

pub unwrap-requires : goal.unwrap-requires
unwrap-requires c = subst IsSome (sym (c.of.ensures.place ∙ place)) (search rules)

pub returns : goal.returns
returns c = let e = c.of.ensures.place ∙ place in let f = c.unwrap.ensures in cc
