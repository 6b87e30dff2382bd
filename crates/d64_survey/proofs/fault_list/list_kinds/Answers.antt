use Rattle.std.proofs.Common.{List, ◌++◌, ap, ◌∙◌}
use Rattle.std.specs.List.{flat_map}
use Rattle.d64_files.specs.Slot.{EntryView}
use Rattle.d64_survey.specs.Owners.{way_slots}
use Rattle.d64_survey.specs.Faults.{kind_fault}
use Rattle.d64_survey.specs.declared.fault.Fault.{Fault}
use Rattle.d64_survey.proofs.FaultLists.{entries_list}
use Rattle.d64_survey.proofs.fault_list.list_kinds.Goals as goal

pub loop-entry-init : goal.loop-entry-init
loop-entry-init c =
    let image = c.args.survey.now in
    let listed : List EntryView → List Fault = flat_map (λ (entry : EntryView). kind_fault (entry.slot, entry.bytes)) in
    ap (λ (l : List Fault). c.args.faults.now.items ++ l) (ap listed (c.into_iter-entry-iterator.ensures.into_iter_gives ∙ c.slots-entry-items.ensures.slots) ∙ entries_list kind_fault image (way_slots image))
