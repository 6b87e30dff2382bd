use Rattle.std.proofs.Common.{◌≡◌, ℕ, ◌||◌, ◌++◌, eqb}
use Rattle.std.specs.List.{flat_map, list_any}
use Rattle.std.specs.FinSet as set
use Rattle.d64_files.specs.Slot.{EntryView}
use Rattle.d64_leftovers.specs.Orphans.{blocks_led_to}
use Rattle.d64_leftovers.proofs.left_blocks.add_slots.Given as goal

abbrev pub invariant-loop-entry : goal.invariant-loop-entry
invariant-loop-entry l = record {
  split : l.fn.slots ≡ l.yielded ++ l.entry-iterator;
  members : (block : ℕ) → set.contains l.members block ≡ (set.contains l.fn.members block || list_any (eqb block) (flat_map (λ (entry : EntryView). blocks_led_to l.image entry.bytes) l.yielded));
}
