use Rattle.out_json_csv.proofs.Objects.{object_printed, line_printed}
use Rattle.cmd_merge.proofs.objects.summary_json.Goals as goal

pub returns : goal.returns
returns c =
    line_printed c.new-writer.ensures.before c.new-writer.ensures.tokens
    (object_printed c.begin_object.ensures c.in_ok-begin_object.was
    c.put_summary.ensures c.in_ok-put_summary.was c.end_object.ensures)
    c.in_ok-end_object.was c.in_ok-text.ensures
