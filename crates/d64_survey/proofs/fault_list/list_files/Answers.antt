use Rattle.std.proofs.Common.{ℕ, List, ◌++◌, ap, ◌∙◌}
use Rattle.std.specs.List.{flat_map}
use Rattle.d64_files.specs.Slot.{EntryView}
use Rattle.d64_survey.specs.Owners.{way_slots}
use Rattle.d64_survey.specs.Faults.{part_fault}
use Rattle.d64_survey.specs.declared.fault.Fault.{Fault}
use Rattle.d64_survey.specs.declared.owner.Part.TheVariants.{Data, Side}
use Rattle.d64_survey.proofs.FaultLists.{entries_list}
use Rattle.d64_survey.proofs.fault_list.list_files.Goals as goal

pub loop-entry-init : goal.loop-entry-init
loop-entry-init c =
    let image = c.args.survey.now in
    let broken : ℕ × List ℕ → List Fault = λ slot. part_fault image slot Data ++ part_fault image slot Side in
    let listed : List EntryView → List Fault = flat_map (λ (entry : EntryView). broken (entry.slot, entry.bytes)) in
    ap (λ (l : List Fault). c.args.faults.now.items ++ l) (ap listed (c.into_iter-entry-iterator.ensures.into_iter_gives ∙ c.slots-entry-items.ensures.slots) ∙ entries_list broken image (way_slots image))
