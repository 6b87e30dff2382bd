use Rattle.std.proofs.Common.{◌≡◌, rules}
use Rattle.out_files.proofs.csv_line.begin_file_row.Goals as goal

pub returns : goal.returns
returns c =
    let slot : c.file.inside.slot ≡ c.args.file.now.slot = search rules in
    rw (c.in_ok-begin_place.ensures, slot) at c.push_file_fields.ensures
