use Rattle.std.proofs.Common.{List, ℕ, ◌++◌, ap, ◌∙◌}
use Rattle.std.specs.Prelude.{codes, decimal, ◌==◌, if◌then◌else◌}
use Rattle.out_messages.specs.Words.{counted_text}
use Rattle.out_messages.specs.FileText.{size_text}
use Rattle.out_messages.proofs.Joins.{join5}
use Rattle.out_messages.proofs.file_text.push_size.Goals as goal

pub returns : goal.returns
unfolding size_text
returns c =
    join5 c.args.out.now.items (codes "the directory says ") (counted_text c.args.shown (codes "block")) (codes ", ") (decimal c.args.there) (if c.args.there == 1 then codes " is there" else codes " are there")
    c.extend_from_slice.new.self.items c.push_count.new.out.items c.extend_from_slice-2.new.self.items c.push_number.new.out.items c.extend_from_slice-3.new.self.items
    c.in_ok-extend_from_slice.ensures.items c.in_ok-push_count.ensures c.in_ok-extend_from_slice-2.ensures.items c.in_ok-push_number.ensures
    (c.in_ok-extend_from_slice-3.ensures.items ∙ ap (λ (text : List ℕ). c.push_number.new.out.items ++ text) c.there_text.ensures)
