use Rattle.std.proofs.Common.{◌≡◌, ◌++◌, take}
use Rattle.d64_merge.specs.Merged.{merged_codes}
use Rattle.d64_merge.proofs.merging.push_codes.Given as goal

abbrev pub invariant-loop-choice : goal.invariant-loop-choice
invariant-loop-choice l = l.bytes.items ≡ l.initial.bytes.items ++ merged_codes (take l.choice-index l.list)
