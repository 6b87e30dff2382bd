use Rattle.std.specs.Prelude.{codes}
use Rattle.out_messages.proofs.Joins.{join3}
use Rattle.script_advice.specs.Remark.{similar_text}
use Rattle.script_advice.proofs.remarks.push_similar.Goals as goal

pub returns : goal.returns
unfolding similar_text
returns c =
    join3 c.args.line.now.items (codes "d64sh: a similar command is ") c.args.name.now (codes "\n")
    c.extend_from_slice.new.self.items c.extend_from_slice-2.new.self.items c.extend_from_slice-3.new.self.items
    c.in_ok-extend_from_slice.ensures.items c.in_ok-extend_from_slice-2.ensures.items c.in_ok-extend_from_slice-3.ensures.items
