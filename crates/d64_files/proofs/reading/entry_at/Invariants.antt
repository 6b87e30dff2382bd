use Rattle.std.proofs.Common.{◌≡◌}
use Rattle.std.specs.Prelude.{find, ◌==◌}
use Rattle.d64_files.specs.Slot.{EntryView}
use Rattle.d64_files.proofs.reading.entry_at.Given as goal

abbrev pub invariant-loop-entry : goal.invariant-loop-entry
invariant-loop-entry l =
    find (λ (e : EntryView). e.slot == l.slot) l.entry-iterator ≡ find (λ (e : EntryView). e.slot == l.slot) l.fn.walk
