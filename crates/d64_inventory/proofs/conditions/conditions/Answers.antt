use Rattle.std.proofs.Common.{◌≡◌, ℕ, ◌<◌, true, not, sym, ap, ◌∙◌}
use Rattle.d64_image.specs.declared.block.TheConstants.{BLOCKS}
use Rattle.d64_inventory.specs.Rows.{is_of_file}
use Rattle.d64_inventory.proofs.FileConditions.{shared_is, free_is}
use Rattle.d64_inventory.proofs.Naming.{third, fourth, fifth, sixth}
use Rattle.d64_inventory.proofs.NumberLists.{all_numbers}
use Rattle.d64_inventory.proofs.conditions.conditions.Goals as goal

pub returns : goal.returns
returns c =
    let image = c.args.survey.now in
    let slot = c.args.entry.now.slot in
    let cell = c.args.entry.now.bytes in
    let there = c.requires.slot in
    let below : (block : ℕ) → is_of_file image cell block ≡ true → block < BLOCKS = λ block is. c.known_members.ensures block (c.requires.blocks block ∙ is) in
    all_numbers image slot _ _ _ _ _ _ _ _ _
    (ap not c.has_kind.ensures ∙ sym (third image slot cell there))
    (c.requires.broken ∙ sym (fourth image slot cell there))
    (c.requires.shared ∙ sym (shared_is image cell below) ∙ sym (fifth image slot cell there))
    (c.requires.free ∙ sym (free_is image cell below) ∙ sym (sixth image slot cell there))
    c.new-list.ensures c.number_if.ensures.list c.number_if-2.ensures.list c.number_if-3.ensures.list c.number_if-4.ensures.list
