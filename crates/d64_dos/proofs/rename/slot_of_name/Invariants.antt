use Rattle.std.proofs.Common.{◌≡◌}
use Rattle.std.specs.Prelude.{find, option_map}
use Rattle.d64_files.specs.Slot.{EntryView}
use Rattle.d64_files.specs.Directory.{slots, has_name}
use Rattle.d64_effects.specs.Rename.{first_of_name}
use Rattle.d64_dos.proofs.rename.slot_of_name.Given as goal

abbrev pub invariant-loop-entry : goal.invariant-loop-entry
invariant-loop-entry l =
    option_map (λ (entry : EntryView). entry.slot) (find (λ (entry : EntryView). has_name l.name entry.bytes) l.entry-iterator)
    ≡ first_of_name l.name (slots l.directory)
