use Rattle.std.proofs.Common.{◌≡◌, ◌++◌, take}
use Rattle.std.specs.Prelude.{option_copied}
use Rattle.std.specs.List.{flat_map}
use Rattle.cmd_basic.specs.RefusedText.{faulty_line}
use Rattle.cmd_basic.proofs.refused_text.push_faulty_lines.Given as goal

abbrev pub invariant-loop-line : goal.invariant-loop-line
invariant-loop-line l = l.out.items ≡ l.initial.out.items ++ flat_map (faulty_line (option_copied l.name)) (take l.line-index l.lines)
