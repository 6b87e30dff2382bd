use Rattle.std.proofs.Common.{◌≡◌, ◌++◌, take}
use Rattle.out_files.specs.FileTable.{unreadable_lines}
use Rattle.out_files.proofs.missing.push_unreadable_lines.Given as goal

abbrev pub invariant-loop-error : goal.invariant-loop-error
invariant-loop-error l = l.out.items ≡ l.initial.out.items ++ unreadable_lines l.survey (take l.error-index l.list)
