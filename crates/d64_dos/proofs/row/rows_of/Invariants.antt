use Rattle.std.proofs.Common.{◌≡◌, ◌++◌}
use Rattle.std.specs.Prelude.{map}
use Rattle.d64_dos.specs.Listing.{rows_of, shown_row}
use Rattle.d64_dos.proofs.row.rows_of.Given as goal

abbrev pub invariant-loop-entry : goal.invariant-loop-entry
invariant-loop-entry l = map shown_row l.rows.items ++ rows_of l.entry-iterator ≡ rows_of l.fn.walk
