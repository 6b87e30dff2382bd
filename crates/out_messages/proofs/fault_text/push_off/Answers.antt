use Rattle.std.proofs.Common.{List, ℕ, ◌++◌, ap, ◌∙◌}
use Rattle.std.specs.Prelude.{codes}
use Rattle.out_messages.specs.Words.{pair_text}
use Rattle.out_messages.specs.FaultText.{last_text, breaks_text, off_text}
use Rattle.out_messages.proofs.Joins.{join5}
use Rattle.out_messages.proofs.fault_text.push_off.Goals as goal

pub returns : goal.returns
unfolding off_text
returns c =
    join5 c.args.out.now.items (breaks_text c.args.many) (last_text c.args.at) (codes " leads to ") (pair_text (c.args.track, c.args.sector)) (codes ", which is not on the disk")
    c.extend_from_slice.new.self.items c.push_last.new.out.items c.extend_from_slice-2.new.self.items c.push_pair.new.out.items c.extend_from_slice-3.new.self.items
    (c.in_ok-extend_from_slice.ensures.items ∙ ap (λ (text : List ℕ). c.args.out.now.items ++ text) c.breaks_text.ensures)
    c.in_ok-push_last.ensures c.in_ok-extend_from_slice-2.ensures.items c.in_ok-push_pair.ensures c.in_ok-extend_from_slice-3.ensures.items
