use Rattle.std.proofs.Common.{◌≡◌, ℕ, ◌++◌}
use Rattle.std.specs.Prelude.{filter, length}
use Rattle.std.specs.List.{range_with_len}
use Rattle.d64_leftovers.specs.Orphans.{is_block_left}
use Rattle.d64_leftovers.proofs.left_blocks.left_blocks.Given as goal

abbrev pub invariant-loop-block : goal.invariant-loop-block
invariant-loop-block l = record {
  split : range_with_len 0 (length l.survey) ≡ l.yielded ++ l.block-iterator;
  left : l.left ≡ filter (is_block_left l.survey) l.yielded;
}
