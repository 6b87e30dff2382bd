use Rattle.std.proofs.Common.{◌≡◌}
use Rattle.std.specs.Prelude.{find}
use Rattle.d64_files.specs.Slot.{EntryView}
use Rattle.d64_leftovers.specs.Orphans.{is_named_by}
use Rattle.d64_leftovers.proofs.orphans.old_slot_among.Given as goal

abbrev pub invariant-loop-entry : goal.invariant-loop-entry
invariant-loop-entry l =
    find (λ (e : EntryView). is_named_by e.image l.head e.bytes) l.entry-iterator ≡ find (λ (e : EntryView). is_named_by e.image l.head e.bytes) l.fn.slots
