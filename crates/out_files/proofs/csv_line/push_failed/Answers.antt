use Rattle.out_files.specs.CsvRow.{failed_file_row}
use Rattle.out_files.proofs.csv_line.push_failed.Goals as goal

pub returns : goal.returns
unfolding failed_file_row
returns c = rw (c.in_ok-push_leftovers.ensures, c.in_ok-begin_name_alone.ensures) at c.end_row.ensures
