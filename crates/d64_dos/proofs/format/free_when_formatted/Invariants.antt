use Rattle.std.proofs.Common.{◌≡◌, ◌++◌, length}
use Rattle.std.specs.List.{range_with_len}
use Rattle.std.specs.FinSet as set
use Rattle.d64_dos.proofs.format.free_when_formatted.Given as goal

abbrev pub invariant-loop-block : goal.invariant-loop-block
invariant-loop-block l = record {
  split : range_with_len 0 (length l.image) ≡ l.yielded ++ l.block-iterator;
  free : l.free ≡ set.from_list (range_with_len 0 (length l.yielded));
}
