use Rattle.std.proofs.Common.{◌≡◌, ◌++◌}
use Rattle.std.specs.List.{flat_map}
use Rattle.d64_files.specs.Slot.{EntryView}
use Rattle.d64_survey.specs.Faults.{kind_fault, kind_faults}
use Rattle.d64_survey.proofs.fault_list.list_kinds.Given as goal

abbrev pub invariant-loop-entry : goal.invariant-loop-entry
invariant-loop-entry l =
    l.faults.items ++ flat_map (λ (entry : EntryView). kind_fault (entry.slot, entry.bytes)) l.entry-iterator ≡ l.fn.faults.items ++ kind_faults l.survey
