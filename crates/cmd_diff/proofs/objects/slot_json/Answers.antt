use Rattle.out_json_csv.proofs.Objects.{members_printed, object_printed, line_printed}
use Rattle.cmd_diff.proofs.objects.slot_json.Goals as goal

pub returns : goal.returns
returns c =
    line_printed c.new-writer.ensures.before c.new-writer.ensures.tokens
    (object_printed c.begin_object.ensures c.in_ok-begin_object.was
    (members_printed c.put_slot.ensures c.in_ok-put_slot.was
    c.put_files.ensures) c.in_ok-put_files.was c.end_object.ensures)
    c.in_ok-end_object.was c.in_ok-text.ensures
