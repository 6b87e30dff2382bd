use Rattle.out_json_csv.proofs.Objects.{members_printed, object_printed, line_printed}
use Rattle.cmd_extract.specs.Extracted.{extracted_object}
use Rattle.cmd_extract.proofs.extracted.extracted_json.Goals as goal

pub returns : goal.returns
unfolding extracted_object
returns c =
    line_printed c.new-writer.ensures.before c.new-writer.ensures.tokens
    (object_printed c.begin_object.ensures c.in_ok-begin_object.was
    (members_printed c.put_row_members.ensures c.in_ok-put_row_members.was
    (members_printed c.put_path.ensures c.in_ok-put_path.was
    c.put_leftover_members.ensures)) c.in_ok-put_leftover_members.was c.end_object.ensures)
    c.in_ok-end_object.was c.in_ok-text.ensures
