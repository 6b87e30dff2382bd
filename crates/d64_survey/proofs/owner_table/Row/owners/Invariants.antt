use Rattle.std.proofs.Common.{◌≡◌, ◌≤◌, length, map, take}
use Rattle.d64_survey.specs.OwnerTables.{owner_kept}
use Rattle.d64_survey.proofs.owner_table.Row.owners.Given as goal

abbrev pub invariant-loop-claimant : goal.invariant-loop-claimant
invariant-loop-claimant l = record {
  kept : l.shown.items ≡ map owner_kept (take l.claimant-index l.claimant-items);
  short : length l.claimant-items ≤ 8;
  few : length l.shown.items ≡ l.claimant-index;
}
