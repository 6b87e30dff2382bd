use Rattle.std.proofs.Common.{◌<◌, length}
use Rattle.d64_image.specs.declared.block.TheConstants.{BLOCKS}
use Rattle.d64_files.proofs.Walks.{Walked}
use Rattle.d64_files.proofs.chain.follow.Given as goal

abbrev pub invariant-loop : goal.invariant-loop
invariant-loop l = record {
  walked : Walked l.image l.fn.start l.last l.counter BLOCKS l.blocks l.seen;
  inside : l.last < length l.image;
}
