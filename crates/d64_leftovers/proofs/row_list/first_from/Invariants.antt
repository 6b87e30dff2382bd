use Rattle.std.proofs.Common.{◌≡◌}
use Rattle.d64_leftovers.specs.Sources.{wanted_rows_from}
use Rattle.d64_leftovers.proofs.row_list.first_from.Given as goal

abbrev pub invariant-loop-at : goal.invariant-loop-at
invariant-loop-at l = record {
  left : wanted_rows_from l.fn.source l.fn.place ≡ wanted_rows_from l.fn.source l.at;
  same : l.source ≡ l.fn.source;
}
