use Rattle.std.proofs.Common.{◌≡◌, ◌++◌}
use Rattle.std.specs.List.{flat_map}
use Rattle.d64_files.specs.Slot.{EntryView}
use Rattle.d64_survey.specs.Owners.{way_slots}
use Rattle.cmd_catalogue.specs.Files.{file_row, file_rows}
use Rattle.cmd_catalogue.proofs.files.push_file_rows.Given as goal

abbrev pub invariant-loop-entry : goal.invariant-loop-entry
invariant-loop-entry l =
    l.out.items ++ flat_map (λ (entry : EntryView). file_row l.all entry.bytes) l.entry-iterator ≡ l.initial.out.items ++ file_rows l.all (way_slots l.all.image)
