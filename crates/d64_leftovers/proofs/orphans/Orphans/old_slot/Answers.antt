use Rattle.std.proofs.Common.{◌≡◌, ℕ, List, ap, ◌∙◌}
use Rattle.std.specs.Prelude.{◌==◌, filter, find, option_map}
use Rattle.d64_image.specs.Block.{pair_at}
use Rattle.d64_files.specs.Slot.{EntryView}
use Rattle.d64_files.specs.Directory.{slots_in, entries}
use Rattle.d64_survey.specs.Dump.{DumpView}
use Rattle.d64_leftovers.specs.Orphans.{is_named_by, left_blocks, old_slot_of, old_slots}
use Rattle.d64_leftovers.proofs.LeftBlocks.{found_among}
use Rattle.d64_leftovers.proofs.orphans.Orphans.old_slot.Goals as goal

pub returns : goal.returns
returns c =
    let image = c.args.self.now.image in
    let head = c.args.head in
    let image_is : c.self.inside.inspection.now.image ≡ image = ap (λ (d : DumpView). d.image) c.self.view_is in
    let blocks_are = c.copy.ensures ∙ c.self.invariant.4 ∙ ap (λ (i : List (List ℕ)). filter (λ block. (pair_at block).0 == 18) (left_blocks i)) image_is in
    let entries_are : c.along-slots.result ≡ entries image (old_slots image) =
    c.along-slots.ensures.slots
    ∙ ap (λ (i : List (List ℕ)). entries i (slots_in i c.copy.result)) (c.image.ensures ∙ image_is)
    ∙ ap (λ (bs : List ℕ). entries image (slots_in image bs)) blocks_are in
    c.old_slot_among.ensures
    ∙ ap (λ (es : List EntryView). option_map (λ (entry : EntryView). old_slot_of entry.bytes) (find (λ (entry : EntryView). is_named_by entry.image head entry.bytes) es)) entries_are
    ∙ found_among image head 0 (old_slots image)
