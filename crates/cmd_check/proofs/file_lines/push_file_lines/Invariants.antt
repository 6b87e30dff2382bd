use Rattle.std.proofs.Common.{◌≡◌, ◌++◌}
use Rattle.std.specs.List.{flat_map}
use Rattle.d64_files.specs.Slot.{EntryView}
use Rattle.d64_survey.specs.Owners.{way_slots}
use Rattle.cmd_check.specs.FileLines.{file_line, file_lines}
use Rattle.cmd_check.proofs.file_lines.push_file_lines.Given as goal

abbrev pub invariant-loop-entry : goal.invariant-loop-entry
invariant-loop-entry l =
    l.out.items ++ flat_map (λ (entry : EntryView). file_line l.inspection entry.bytes) l.entry-iterator ≡ l.initial.out.items ++ file_lines l.inspection (way_slots l.inspection.image)
