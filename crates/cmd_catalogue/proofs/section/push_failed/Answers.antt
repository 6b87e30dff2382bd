use Rattle.std.proofs.Common.{ℕ, List, [], ◌++◌, ap, ◌∙◌, append_assoc, sym}
use Rattle.std.specs.Prelude.{codes}
use Rattle.out_messages.proofs.Joins.{join3}
use Rattle.out_markup.specs.Markup.{tag, element}
use Rattle.cmd_catalogue.specs.Elements.{text_line}
use Rattle.cmd_catalogue.specs.Sections.{host_line, failed_section}
use Rattle.cmd_catalogue.proofs.section.push_failed.Goals as goal

pub returns : goal.returns
unfolding tag element failed_section
returns c =
    let before = c.args.out.now.items in
    let start = codes "<section class=\"amiss\">\n" in
    let lines = host_line (codes "h2") c.args.name.now ++ text_line (codes "p") [] c.args.wrong.now in
    join3 before start lines (codes "</section>\n")
    c.extend_from_slice.new.self.items c.push_wrong_lines.new.out.items c.extend_from_slice-2.new.self.items
    c.in_ok-extend_from_slice.ensures.items c.in_ok-push_wrong_lines.ensures c.in_ok-extend_from_slice-2.ensures.items
    ∙ ap (λ (text : List ℕ). before ++ (start ++ text)) (sym (append_assoc lines (codes "</section>") (codes "\n")))
