use Rattle.std.proofs.Common.{◌≡◌}
use Rattle.std.specs.Prelude.{find}
use Rattle.d64_files.specs.Directory.{is_named}
use Rattle.d64_files.specs.Slot.{EntryView}
use Rattle.script_advice.specs.Found.{first_file}
use Rattle.script_advice.proofs.found.first_file.Given as goal

-- the pattern matches none of the files before
abbrev pub invariant-loop-entry : goal.invariant-loop-entry
invariant-loop-entry l = find (λ (entry : EntryView). is_named l.pattern entry.bytes) l.entry-iterator ≡ first_file l.survey l.pattern
