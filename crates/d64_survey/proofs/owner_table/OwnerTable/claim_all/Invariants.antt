use Rattle.std.proofs.Common.{take}
use Rattle.d64_survey.specs.Owners.{owned_as}
use Rattle.d64_survey.specs.OwnerTables.{owner_kept, Adds, AddsFew}
use Rattle.d64_survey.proofs.owner_table.OwnerTable.claim_all.Given as goal

abbrev pub invariant-loop-block : goal.invariant-loop-block
invariant-loop-block l = record {
  listed : Adds l.fn.self (owned_as (owner_kept l.claimant) (take l.block-index l.blocks)) l.self;
  few : AddsFew l.fn.self l.block-index l.self;
}
