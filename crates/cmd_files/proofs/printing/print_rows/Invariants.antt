use Rattle.std.proofs.Common.{◌≡◌, ◌++◌}
use Rattle.std.specs.List.{flat_map}
use Rattle.cmd_files.specs.Files.{printed_row, printed_rows}
use Rattle.cmd_files.proofs.printing.print_rows.Given as goal

abbrev pub invariant-loop-row : goal.invariant-loop-row
invariant-loop-row l = record {
  text : l.text.items ++ flat_map (printed_row l.form l.name l.all.image) l.row-iterator ≡ l.fn.out.items ++ printed_rows l.form l.fn.wanted l.name l.fn.all;
}
