use Rattle.std.proofs.Common.{◌≡◌}
use Rattle.d64_leftovers.specs.Sources.{orphans_from}
use Rattle.d64_leftovers.proofs.row_list.orphan_from.Given as goal

abbrev pub invariant-loop-at : goal.invariant-loop-at
invariant-loop-at l = record {
  left : orphans_from l.fn.source l.fn.place ≡ orphans_from l.fn.source l.at;
  same : l.source ≡ l.fn.source;
}
