use Rattle.std.proofs.Common.{◌≡◌, ◌++◌, map, take}
use Rattle.std.specs.Prelude.{string_bytes}
use Rattle.std.specs.List.{flat_map}
use Rattle.cmd_merge.specs.Lines.{line_of_choice}
use Rattle.cmd_merge.proofs.lines.push_choices.Given as goal

abbrev pub invariant-loop-choice : goal.invariant-loop-choice
invariant-loop-choice l = l.out.items ≡ l.initial.out.items ++ flat_map (line_of_choice (map string_bytes l.names) l.dumps) (take l.choice-index l.list)
