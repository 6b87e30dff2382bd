use Rattle.std.proofs.Common.{◌≡◌}
use Rattle.std.specs.Prelude.{find}
use Rattle.d64_files.specs.Slot.{EntryView}
use Rattle.d64_files.specs.Directory.{slots, entries}
use Rattle.d64_dos.specs.Restoring.{is_left_by}
use Rattle.d64_dos.proofs.undelete.first_left.Given as goal

abbrev pub invariant-loop-entry : goal.invariant-loop-entry
invariant-loop-entry l =
    find (λ (entry : EntryView). is_left_by l.scratched l.name (entry.slot, entry.bytes)) l.entry-iterator
    ≡ find (λ (entry : EntryView). is_left_by l.scratched l.name (entry.slot, entry.bytes)) (entries l.directory (slots l.directory))
