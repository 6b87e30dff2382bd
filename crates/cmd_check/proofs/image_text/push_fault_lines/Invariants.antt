use Rattle.std.proofs.Common.{◌≡◌, ℕ, ◌++◌, ◌-◌}
use Rattle.std.specs.List.{flat_map, range_with_len}
use Rattle.cmd_check.specs.CheckText.{first_lines, faults_of}
use Rattle.cmd_check.proofs.image_text.push_fault_lines.Given as goal

abbrev pub invariant-loop-number : goal.invariant-loop-number
invariant-loop-number l = l.out.items ≡ l.initial.out.items ++ flat_map (λ (n : ℕ). first_lines l.survey (faults_of l.list n)) (range_with_len 1 (l.number - 1))
