use Rattle.out_files.specs.CsvRow.{file_header_row}
use Rattle.out_files.proofs.csv_line.files_header.Goals as goal

pub returns : goal.returns
unfolding file_header_row
returns c = rw (c.in_ok-push_leftovers.ensures, c.in_ok-begin_header.ensures) at c.end_row.ensures
