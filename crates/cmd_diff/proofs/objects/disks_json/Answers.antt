use Rattle.out_json_csv.proofs.Objects.{members_printed, object_printed, line_printed}
use Rattle.cmd_diff.proofs.objects.disks_json.Goals as goal

pub returns : goal.returns
returns c =
    line_printed c.new-writer.ensures.before c.new-writer.ensures.tokens
    (object_printed c.begin_object.ensures c.in_ok-begin_object.was
    (members_printed c.put_text.ensures c.in_ok-put_text.was
    c.put_disks.ensures) c.in_ok-put_disks.was c.end_object.ensures)
    c.in_ok-end_object.was c.in_ok-text.ensures
