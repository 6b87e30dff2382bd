use Rattle.std.proofs.Common.{◌≡◌, ◌++◌, length}
use Rattle.std.specs.List.{range_with_len}
use Rattle.d64_dos.proofs.BlockSets.{OthersBelow}
use Rattle.d64_dos.proofs.validate.all_but.Given as goal

abbrev pub invariant-loop-block : goal.invariant-loop-block
invariant-loop-block l = record {
  split : range_with_len 0 (length l.image) ≡ l.yielded ++ l.block-iterator;
  others : OthersBelow l.owned l.others (length l.yielded);
}
