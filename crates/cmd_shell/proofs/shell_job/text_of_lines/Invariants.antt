use Rattle.std.proofs.Common.{◌≡◌, map, string_bytes, take}
use Rattle.cmd_shell.specs.Beginnings.{text_of_lines}
use Rattle.cmd_shell.proofs.shell_job.text_of_lines.Given as goal

abbrev pub invariant-loop-line : goal.invariant-loop-line
invariant-loop-line l = record {
  so_far : l.text.items ≡ text_of_lines (map string_bytes (take l.line-index l.lines));
}
