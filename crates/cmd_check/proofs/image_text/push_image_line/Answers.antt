use Rattle.std.proofs.Common.{List, ℕ, ◌++◌, ap, ◌∙◌}
use Rattle.std.specs.Prelude.{codes}
use Rattle.host_storage.specs.Shown.{shown_name}
use Rattle.out_messages.specs.StateText.{label_text, contents_text, state_text}
use Rattle.cmd_check.specs.CheckText.{image_line}
use Rattle.out_messages.proofs.Joins.{join4, join5}
use Rattle.cmd_check.proofs.image_text.push_image_line.Goals as goal

pub returns : goal.returns
unfolding image_line
returns c =
    let dump = c.args.inspection.now in
    let after_label = c.push_label.new.out.items in
    join4 c.args.out.now.items (shown_name c.args.name.now) (codes ": ") (label_text dump.image)
    (codes ", " ++ (contents_text dump.image ++ (codes ": " ++ (state_text dump ++ codes "\n"))))
    c.push_shown.new.out.items c.extend_from_slice.new.self.items after_label c.extend_from_slice-4.new.self.items
    c.in_ok-push_shown.ensures c.in_ok-extend_from_slice.ensures.items
    (c.in_ok-push_label.ensures ∙ ap (λ (image : List (List ℕ)). c.extend_from_slice.new.self.items ++ label_text image) c.image.ensures)
    (join5 after_label (codes ", ") (contents_text dump.image) (codes ": ") (state_text dump) (codes "\n")
    c.extend_from_slice-2.new.self.items c.push_contents.new.out.items c.extend_from_slice-3.new.self.items c.push_state.new.out.items c.extend_from_slice-4.new.self.items
    c.in_ok-extend_from_slice-2.ensures.items c.in_ok-push_contents.ensures c.in_ok-extend_from_slice-3.ensures.items c.in_ok-push_state.ensures
    c.in_ok-extend_from_slice-4.ensures.items)
