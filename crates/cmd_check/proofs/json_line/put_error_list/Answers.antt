use Rattle.out_json_csv.proofs.Objects.{member_printed}
use Rattle.cmd_check.proofs.json_line.put_error_list.Goals as goal

pub returns : goal.returns
returns c = member_printed c.key.ensures c.in_ok-key.was (rw (c.survey.ensures, c.read_errors.ensures) at c.put_read_errors.ensures)
