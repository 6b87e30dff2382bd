use Rattle.std.proofs.Common.{◌≡◌}
use Rattle.std.specs.Prelude.{find, ◌&&◌}
use Rattle.d64_files.specs.Slot.{EntryView, is_used, name_of}
use Rattle.script_advice.specs.Found.{is_in_other_letters, respelled_file}
use Rattle.script_advice.proofs.found.respelled_file.Given as goal

-- none of the files before has the name in other letters
abbrev pub invariant-loop-entry : goal.invariant-loop-entry
invariant-loop-entry l =
    find (λ (entry : EntryView). is_used entry.bytes && is_in_other_letters (name_of entry.bytes) l.name) l.entry-iterator ≡ respelled_file l.survey l.name
