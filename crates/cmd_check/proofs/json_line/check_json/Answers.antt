use Rattle.cmd_check.specs.Checks.{check_object}
use Rattle.out_json_csv.proofs.Objects.{members_printed, object_printed, line_printed}
use Rattle.cmd_check.proofs.json_line.check_json.Goals as goal

pub returns : goal.returns
unfolding check_object
returns c =
    line_printed c.new-writer.ensures.before c.new-writer.ensures.tokens
    (object_printed c.begin_object.ensures c.in_ok-begin_object.was
    (members_printed c.put_dump.ensures c.in_ok-put_dump.was
    (members_printed (rw c.image.ensures at c.put_label.ensures) c.in_ok-put_label.was
    (members_printed c.put_counts.ensures c.in_ok-put_counts.was
    (members_printed c.put_state.ensures c.in_ok-put_state.was
    (members_printed c.put_findings.ensures c.in_ok-put_findings.was
    (members_printed c.put_digest.ensures c.in_ok-put_digest.was (rw c.doubts.ensures at c.put_doubts.ensures))))))) c.in_ok-put_doubts.was c.end_object.ensures)
    c.in_ok-end_object.was c.in_ok-text.ensures
