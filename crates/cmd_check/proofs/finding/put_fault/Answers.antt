use Rattle.std.proofs.Common.{[], ◌∷◌, codes, rules}
use Rattle.d64_survey.specs.Faults.{number}
use Rattle.out_json_csv.specs.Values.{PrintsMembers, numeral}
use Rattle.cmd_check.specs.Findings.{fault_object}
use Rattle.out_json_csv.proofs.Objects.{members_printed, object_printed}
use Rattle.cmd_check.proofs.finding.put_fault.Goals as goal

pub returns : goal.returns
unfolding fault_object
returns c =
    let condition : PrintsMembers c.put_number.result c.begin_object.new.self c.put_number.new.writer ((codes "condition", numeral (number c.args.fault.now)) ∷ []) = search rules in
    object_printed c.begin_object.ensures c.in_ok-begin_object.was
    (members_printed condition c.in_ok-put_number.was c.put_fault_members.ensures) c.in_ok-put_fault_members.was c.end_object.ensures
