use Rattle.std.proofs.Common.{◌≡◌}
use Rattle.std.specs.Prelude.{find}
use Rattle.d64_files.specs.Slot.{EntryView}
use Rattle.d64_files.specs.Directory.{slots, entries, is_named}
use Rattle.d64_files.proofs.directory_blocks.Directory.named.Given as goal

abbrev pub invariant-loop-entry : goal.invariant-loop-entry
invariant-loop-entry l =
    find (λ (e : EntryView). is_named l.pattern e.bytes) l.entry-iterator ≡ find (λ (e : EntryView). is_named l.pattern e.bytes) (entries l.self (slots l.self))
