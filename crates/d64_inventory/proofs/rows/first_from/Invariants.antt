use Rattle.std.proofs.Common.{◌≡◌}
use Rattle.d64_inventory.specs.Rows.{rows_from}
use Rattle.d64_inventory.proofs.rows.first_from.Given as goal

abbrev pub invariant-loop-at : goal.invariant-loop-at
invariant-loop-at l = record {
  left : rows_from l.fn.inventory l.fn.place ≡ rows_from l.fn.inventory l.at;
  same : l.inventory ≡ l.fn.inventory;
}
