use Rattle.std.proofs.Common.{ℕ, List, ◌+◌, ◌++◌, ap, ◌∙◌}
use Rattle.std.specs.Prelude.{codes, decimal}
use Rattle.d64_files.specs.Slot.{name_of}
use Rattle.out_picture.specs.declared.colour.Colour.{Colour}
use Rattle.out_messages.proofs.Joins.{join4}
use Rattle.out_picture.specs.Colours.{class_of, colour_of_slot}
use Rattle.out_picture.specs.Legend.{legend_file_row, legend_name_at}
use Rattle.out_picture.specs.Shapes.{path_element, text_element}
use Rattle.out_picture.proofs.legend.push_file_row.Goals as goal

pub returns : goal.returns
unfolding legend_file_row
returns c =
    let before = c.args.out.now.items in
    let entry = c.args.entry.now in
    let x = c.args.x in
    let y = c.args.y in
    join4 before (path_element (class_of (colour_of_slot entry.slot)) (x + 2) (y + 2) (codes "h10v10h-10z")) (legend_name_at (x + 22) (y + 11) (name_of entry.bytes))
    (text_element (codes "end") (x + 226) (y + 11) (decimal c.args.blocks)) (codes "\n")
    c.push_path.new.out.items c.push_name.new.out.items c.push_number_of.new.out.items c.extend_from_slice.new.self.items
    (c.in_ok-push_path.ensures
    ∙ ap (λ (colour : Colour). before ++ path_element (class_of colour) (x + 2) (y + 2) (codes "h10v10h-10z")) (c.colour_of_slot.ensures ∙ ap colour_of_slot c.slot.ensures))
    (c.in_ok-push_name.ensures ∙ ap (λ (name : List ℕ). c.push_path.new.out.items ++ legend_name_at (x + 22) (y + 11) name) c.name.ensures)
    c.in_ok-push_number_of.ensures c.in_ok-extend_from_slice.ensures.items
