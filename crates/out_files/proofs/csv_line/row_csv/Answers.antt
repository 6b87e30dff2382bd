use Rattle.out_files.specs.CsvRow.{csv_row}
use Rattle.out_files.proofs.csv_line.row_csv.Goals as goal

pub returns : goal.returns
unfolding csv_row
returns c = rw (c.in_ok-push_leftover_fields.ensures, c.in_ok-begin_row.ensures) at c.end_row.ensures
