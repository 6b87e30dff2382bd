use Rattle.std.proofs.Common.{◌≡◌, ◌++◌, take}
use Rattle.std.specs.List.{flat_map}
use Rattle.d64_merge.specs.Merged.{taken_bytes}
use Rattle.d64_merge.proofs.merging.push_blocks.Given as goal

abbrev pub invariant-loop-choice : goal.invariant-loop-choice
invariant-loop-choice l = l.bytes.items ≡ l.initial.bytes.items ++ flat_map (taken_bytes l.dumps) (take l.choice-index l.list)
