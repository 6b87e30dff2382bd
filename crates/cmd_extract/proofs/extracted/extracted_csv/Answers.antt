use Rattle.std.proofs.Common.{[], ◌∷◌, option_map, append_assoc}
use Rattle.out_files.specs.CsvRow.{row_fields, leftover_fields}
use Rattle.cmd_extract.specs.Extracted.{path_field, extracted_row}
use Rattle.cmd_extract.proofs.extracted.extracted_csv.Goals as goal

pub returns : goal.returns
unfolding extracted_row
returns c =
    let row = row_fields c.args.name.now c.args.row.now in
    let path = path_field (option_map (λ p. p.now) c.args.path) ∷ [] in
    rw (c.in_ok-push_leftover_fields.ensures, c.in_ok-push_path_field.ensures, c.in_ok-begin_row.ensures, append_assoc row path (leftover_fields c.args.leftovers c.args.row.now)) at c.end_row.ensures
