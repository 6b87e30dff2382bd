use Rattle.std.proofs.Common.{◌≡◌, rules}
use Rattle.host_storage.specs.Shown.{shown_name}
use Rattle.out_json_csv.proofs.HostFields.{host_field-utf8, host_field-other}
use Rattle.out_json_csv.proofs.csv_row.CsvRow.push_host_name.Goals as goal

pub returns-in-Ok : goal.returns-in-Ok
returns-in-Ok c = rw (host_field-utf8 c.args.name.now c.in-Ok.ensures.cases.1) c.push_field.ensures.pushed

pub returns-in_ok-push_shown-in-Err : goal.returns-in_ok-push_shown-in-Err
returns-in_ok-push_shown-in-Err c =
    let shown : c.as_slice.result.now ≡ shown_name c.args.name.now = search rules in
    rw (host_field-other c.args.name.now c.in-Err.ensures.cases.0) (rw shown at c.push_field-in-Err.ensures.pushed)
