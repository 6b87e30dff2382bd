use Rattle.std.proofs.Common.{◌≡◌, ◌++◌, map, take}
use Rattle.std.specs.Prelude.{string_bytes}
use Rattle.std.specs.List.{flat_map}
use Rattle.cmd_merge.specs.Objects.{choice_line}
use Rattle.cmd_merge.proofs.objects.choice_lines.Given as goal

abbrev pub invariant-loop-choice : goal.invariant-loop-choice
invariant-loop-choice l = l.text.items ≡ l.fn.out.items ++ flat_map (choice_line (map string_bytes l.names) l.dumps) (take l.choice-index l.list)
