use Rattle.std.proofs.Common.{◌≡◌, ◌++◌, take}
use Rattle.out_files.specs.FileTable.{broken_lines}
use Rattle.out_files.proofs.missing.push_broken_lines.Given as goal

abbrev pub invariant-loop-fault : goal.invariant-loop-fault
invariant-loop-fault l = l.out.items ≡ l.initial.out.items ++ broken_lines l.survey (take l.fault-index l.list)
