use Rattle.std.proofs.Common.{drop}
use Rattle.cmd_check.specs.Findings.{fault_object}
use Rattle.out_json_csv.proofs.Arrays.{ArrayBegun}
use Rattle.cmd_check.proofs.finding.put_faults.Given as goal

abbrev pub invariant-loop-fault : goal.invariant-loop-fault
invariant-loop-fault l = ArrayBegun (fault_object l.survey) l.initial.writer l.writer l.faults (drop l.fault-index l.faults)
