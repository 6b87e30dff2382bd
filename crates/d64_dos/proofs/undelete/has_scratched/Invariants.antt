use Rattle.std.proofs.Common.{◌≡◌}
use Rattle.std.specs.List.{list_any}
use Rattle.d64_files.specs.Slot.{EntryView}
use Rattle.d64_files.specs.Directory.{slots}
use Rattle.d64_dos.specs.Undelete.{is_scratched_as}
use Rattle.d64_dos.proofs.undelete.has_scratched.Given as goal

abbrev pub invariant-loop-entry : goal.invariant-loop-entry
invariant-loop-entry l = list_any (λ (entry : EntryView). is_scratched_as l.name entry.bytes) l.entry-iterator ≡ list_any (is_scratched_as l.name) (slots l.directory)
