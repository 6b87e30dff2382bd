use Rattle.std.proofs.Common.{◌≡◌, ◌++◌, map, take}
use Rattle.out_json_csv.proofs.csv_row.CsvRow.push_fields.Given as goal

abbrev pub invariant-loop-field : goal.invariant-loop-field
invariant-loop-field l = l.self ≡ l.fn.self ++ map (λ f. f.now) (take l.field-index l.fields)
