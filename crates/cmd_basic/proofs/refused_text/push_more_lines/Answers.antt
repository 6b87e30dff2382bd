use Rattle.std.proofs.Common.{rules}
use Rattle.cmd_basic.proofs.StoredRuns.{more_parts}
use Rattle.cmd_basic.proofs.refused_text.push_more_lines.Goals as goal

pub returns : goal.returns
returns c =
    more_parts c.args.count c.args.out.now.items c.extend_from_slice.new.self.items c.push_count.new.out.items _ (search rules)
    c.in_ok-extend_from_slice.ensures.items c.in_ok-push_count.ensures c.in_ok-extend_from_slice-2.ensures.items
