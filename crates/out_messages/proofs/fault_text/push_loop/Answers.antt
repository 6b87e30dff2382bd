use Rattle.std.proofs.Common.{List, ℕ, ◌++◌, ap, ◌∙◌}
use Rattle.std.specs.Prelude.{codes}
use Rattle.out_messages.specs.Words.{pair_text}
use Rattle.out_messages.specs.FaultText.{last_text, loops_text, loop_text}
use Rattle.out_messages.proofs.Joins.{join4}
use Rattle.out_messages.proofs.fault_text.push_loop.Goals as goal

pub returns : goal.returns
unfolding loop_text
returns c =
    join4 c.args.out.now.items (loops_text c.args.many) (last_text c.args.at) (codes " leads back to ") (pair_text (c.args.track, c.args.sector))
    c.extend_from_slice.new.self.items c.push_last.new.out.items c.extend_from_slice-2.new.self.items c.push_pair.new.out.items
    (c.in_ok-extend_from_slice.ensures.items ∙ ap (λ (text : List ℕ). c.args.out.now.items ++ text) c.loops_text.ensures)
    c.in_ok-push_last.ensures c.in_ok-extend_from_slice-2.ensures.items c.in_ok-push_pair.ensures
