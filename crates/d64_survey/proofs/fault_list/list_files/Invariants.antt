use Rattle.std.proofs.Common.{◌≡◌, ◌++◌}
use Rattle.std.specs.List.{flat_map}
use Rattle.d64_files.specs.Slot.{EntryView}
use Rattle.d64_survey.specs.Faults.{part_fault, file_faults}
use Rattle.d64_survey.specs.declared.owner.Part.TheVariants.{Data, Side}
use Rattle.d64_survey.proofs.fault_list.list_files.Given as goal

abbrev pub invariant-loop-entry : goal.invariant-loop-entry
invariant-loop-entry l =
    l.faults.items ++ flat_map (λ (entry : EntryView). part_fault l.survey (entry.slot, entry.bytes) Data ++ part_fault l.survey (entry.slot, entry.bytes) Side) l.entry-iterator
    ≡ l.fn.faults.items ++ file_faults l.survey
