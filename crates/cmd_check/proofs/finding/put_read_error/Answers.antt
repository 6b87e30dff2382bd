use Rattle.std.proofs.Common.{[], ◌∷◌, codes, rules}
use Rattle.d64_survey.specs.Dump.{drive_status}
use Rattle.out_json_csv.specs.Values.{PrintsMembers, numeral, numeral_or_null}
use Rattle.cmd_check.specs.Findings.{read_error_object}
use Rattle.out_json_csv.proofs.Objects.{members_printed, object_printed}
use Rattle.cmd_check.proofs.finding.put_read_error.Goals as goal

pub returns : goal.returns
unfolding read_error_object
returns c =
    let code : PrintsMembers c.put_number.result c.put_block.new.writer c.put_number.new.writer ((codes "code", numeral c.args.error.now.code) ∷ []) = search rules in
    let status : PrintsMembers c.put_status.result c.put_number.new.writer c.put_status.new.writer ((codes "status", numeral_or_null (drive_status c.args.error.now.code)) ∷ []) = rw c.drive_status.ensures at c.put_status.ensures in
    object_printed c.begin_object.ensures c.in_ok-begin_object.was
    (members_printed c.put_block.ensures c.in_ok-put_block.was
    (members_printed code c.in_ok-put_number.was
    (members_printed status c.in_ok-put_status.was c.put_owners.ensures))) c.in_ok-put_owners.was c.end_object.ensures
