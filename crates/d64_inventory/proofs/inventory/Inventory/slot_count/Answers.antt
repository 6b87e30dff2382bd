use Rattle.std.proofs.Common.{◌*◌, ℕ, List, length, sym, ap, ◌∙◌}
use Rattle.d64_files.proofs.SlotLists.{length-slots_in}
use Rattle.d64_survey.specs.Dump.{DumpView}
use Rattle.d64_survey.specs.Owners.{directory_way, way_slots}
use Rattle.d64_inventory.proofs.inventory.Inventory.slot_count.Goals as goal

pub returns : goal.returns
returns c =
    let image = c.survey.result.now in
    ap (λ (bs : List ℕ). 8 * length bs) c.directory.ensures.value
    ∙ sym (length-slots_in image (directory_way image).0)
    ∙ ap (λ (i : List (List ℕ)). length (way_slots i)) c.survey.ensures
    ∙ ap (λ (d : DumpView). length (way_slots d.image)) c.self.view_is
