use Rattle.std.proofs.Common.{ℕ, List, ap, ◌∙◌}
use Rattle.std.specs.List.{flat_map}
use Rattle.d64_files.specs.Slot.{EntryView}
use Rattle.d64_survey.specs.Owners.{way_slots}
use Rattle.d64_leftovers.specs.Orphans.{blocks_led_to}
use Rattle.d64_leftovers.proofs.LeftBlocks.{all_of, along_entries}
use Rattle.d64_leftovers.proofs.left_blocks.blocks_with_slots.Goals as goal

pub returns : goal.returns
returns c =
    let image = c.args.survey.now in
    all_of c.empty-members.result c.add_slots.new.members
    (flat_map (λ (entry : EntryView). blocks_led_to c.image.result.now entry.bytes) c.slots.result)
    (flat_map (blocks_led_to image) (way_slots image))
    c.empty-members.ensures.value c.add_slots.ensures
    (ap (λ (i : List (List ℕ)). flat_map (λ (entry : EntryView). blocks_led_to i entry.bytes) c.slots.result) c.image.ensures
    ∙ ap (flat_map (λ (entry : EntryView). blocks_led_to image entry.bytes)) c.slots.ensures.slots
    ∙ along_entries (blocks_led_to image) image 0 (way_slots image))
