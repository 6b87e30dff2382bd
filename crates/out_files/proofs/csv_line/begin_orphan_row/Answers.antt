use Rattle.out_files.proofs.csv_line.begin_orphan_row.Goals as goal

pub returns : goal.returns
returns c = rw c.in_ok-begin_orphan_place.ensures at c.push_orphan_fields.ensures
