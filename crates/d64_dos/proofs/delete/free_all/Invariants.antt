use Rattle.std.proofs.Common.{◌≡◌, ◌++◌, length}
use Rattle.std.specs.List.{range_with_len}
use Rattle.d64_image.specs.declared.block.TheConstants.{BLOCKS}
use Rattle.d64_dos.proofs.BlockSets.{FreedBelow}
use Rattle.d64_dos.proofs.delete.free_all.Given as goal

abbrev pub invariant-loop-block : goal.invariant-loop-block
invariant-loop-block l = record {
  split : range_with_len 0 BLOCKS ≡ l.yielded ++ l.block-iterator;
  freed : FreedBelow l.fn.free l.given l.free (length l.yielded);
}
