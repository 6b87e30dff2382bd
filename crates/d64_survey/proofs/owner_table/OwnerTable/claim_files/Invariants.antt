use Rattle.std.proofs.Common.{◌≡◌, ◌*◌, ◌<◌, ◌++◌, length}
use Rattle.std.specs.Prelude.{All}
use Rattle.std.specs.List.{flat_map}
use Rattle.d64_image.specs.declared.block.TheConstants.{BLOCKS}
use Rattle.d64_files.specs.Slot.{EntryView}
use Rattle.d64_survey.specs.Owners.{slot_owners}
use Rattle.d64_survey.specs.OwnerTables.{Adds, AddsFew}
use Rattle.d64_survey.proofs.owner_table.OwnerTable.claim_files.Given as goal

abbrev pub invariant-loop-entry : goal.invariant-loop-entry
invariant-loop-entry l = record {
  split : l.fn.slots ≡ l.yielded ++ l.entry-iterator;
  listed : Adds l.fn.self (flat_map (λ (entry : EntryView). slot_owners l.image (entry.slot, entry.bytes)) l.yielded) l.self;
  few : AddsFew l.fn.self (1536 * length l.yielded) l.self;
  numbers : All (λ (entry : EntryView). entry.slot < 8 * BLOCKS) l.entry-iterator;
}
