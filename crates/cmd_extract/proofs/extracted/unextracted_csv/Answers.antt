use Rattle.cmd_extract.specs.Extracted.{unextracted_row}
use Rattle.cmd_extract.proofs.extracted.unextracted_csv.Goals as goal

pub returns : goal.returns
unfolding unextracted_row
returns c = rw (c.in_ok-push_leftovers.ensures, c.in_ok-push_field.ensures.pushed, c.in_ok-begin_name_alone.ensures) at c.end_row.ensures
