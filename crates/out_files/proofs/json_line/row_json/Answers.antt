use Rattle.out_json_csv.proofs.Objects.{members_printed, object_printed, line_printed}
use Rattle.out_files.specs.RowObject.{row_object}
use Rattle.out_files.proofs.json_line.row_json.Goals as goal

pub returns : goal.returns
unfolding row_object
returns c =
    line_printed c.new-writer.ensures.before c.new-writer.ensures.tokens
    (object_printed c.begin_object.ensures c.in_ok-begin_object.was
    (members_printed c.put_row_members.ensures c.in_ok-put_row_members.was
    c.put_leftover_members.ensures) c.in_ok-put_leftover_members.was c.end_object.ensures)
    c.in_ok-end_object.was c.in_ok-text.ensures
