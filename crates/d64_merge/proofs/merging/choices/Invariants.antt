use Rattle.std.proofs.Common.{◌≡◌, map}
use Rattle.std.specs.List.{range_with_len}
use Rattle.d64_merge.specs.Choices.{choice}
use Rattle.d64_merge.proofs.merging.choices.Given as goal

abbrev pub invariant-loop-index : goal.invariant-loop-index
invariant-loop-index l = l.list.items ≡ map (choice l.preference l.dumps) (range_with_len 0 l.index)
