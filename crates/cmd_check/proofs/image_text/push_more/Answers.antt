use Rattle.std.specs.Prelude.{codes, decimal}
use Rattle.cmd_check.specs.CheckText.{more_faults_text}
use Rattle.out_messages.proofs.Joins.{join3}
use Rattle.cmd_check.proofs.image_text.push_more.Goals as goal

pub returns : goal.returns
unfolding more_faults_text
returns c =
    join3 c.args.out.now.items (codes "and ") (decimal c.args.count) (codes " more of these") c.extend_from_slice.new.self.items c.push_number.new.out.items
    c.extend_from_slice-2.new.self.items c.in_ok-extend_from_slice.ensures.items c.in_ok-push_number.ensures c.in_ok-extend_from_slice-2.ensures.items
