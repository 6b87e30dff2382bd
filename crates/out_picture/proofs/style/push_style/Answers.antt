use Rattle.std.proofs.Common.{ℕ, List, ◌++◌, ap, ◌∙◌, append_assoc, sym}
use Rattle.std.specs.Prelude.{codes}
use Rattle.out_messages.proofs.Joins.{join3}
use Rattle.out_markup.specs.Markup.{attribute, tag, element}
use Rattle.out_picture.specs.Style.{basic_rules, colour_rules, mark_rules, style}
use Rattle.out_picture.proofs.style.push_style.Goals as goal

pub returns : goal.returns
unfolding attribute tag element style
returns c =
    let before = c.args.out.now.items in
    let start = codes "<style type=\"text/css\">\n" in
    let rules = basic_rules ++ (colour_rules ++ mark_rules) in
    join3 before start rules (codes "</style>\n")
    c.extend_from_slice.new.self.items c.push_rules.new.out.items c.extend_from_slice-2.new.self.items
    c.in_ok-extend_from_slice.ensures.items c.in_ok-push_rules.ensures c.in_ok-extend_from_slice-2.ensures.items
    ∙ ap (λ (text : List ℕ). before ++ (start ++ text)) (sym (append_assoc rules (codes "</style>") (codes "\n")))
