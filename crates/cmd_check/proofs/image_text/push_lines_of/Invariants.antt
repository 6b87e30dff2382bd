use Rattle.std.proofs.Common.{◌≡◌, ◌≤◌, ◌++◌, take, length}
use Rattle.cmd_check.specs.CheckText.{faults_of}
use Rattle.cmd_check.proofs.FaultCounts.{lines_within}
use Rattle.cmd_check.proofs.image_text.push_lines_of.Given as goal

abbrev pub invariant-loop-fault : goal.invariant-loop-fault
invariant-loop-fault l = record {
  count : l.count ≡ length (faults_of (take l.fault-index l.list) l.number);
  below : l.count ≤ l.fault-index;
  text : l.out.items ≡ l.initial.out.items ++ lines_within l.survey l.list l.fault-index l.number;
}
