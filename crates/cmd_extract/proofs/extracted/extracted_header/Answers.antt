use Rattle.cmd_extract.specs.Extracted.{extracted_header}
use Rattle.cmd_extract.proofs.extracted.extracted_header.Goals as goal

pub returns : goal.returns
unfolding extracted_header
returns c = rw (c.in_ok-push_leftovers.ensures, c.in_ok-push_field.ensures.pushed, c.in_ok-begin_header.ensures) at c.end_row.ensures
