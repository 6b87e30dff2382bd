use Rattle.std.proofs.Common.{◌≡◌, ◌++◌, take}
use Rattle.cmd_check.specs.CheckText.{read_error_lines}
use Rattle.cmd_check.proofs.image_text.push_error_lines.Given as goal

abbrev pub invariant-loop-error : goal.invariant-loop-error
invariant-loop-error l = l.out.items ≡ l.initial.out.items ++ read_error_lines l.survey (take l.error-index l.list)
