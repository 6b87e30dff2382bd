use Rattle.std.proofs.Common.{option_copied, ◌∙◌}
use Rattle.cmd_basic.proofs.StoredRuns.{refused_parts}
use Rattle.cmd_basic.proofs.refused_text.refused_text.Goals as goal

pub returns : goal.returns
returns c =
    let (all, are, first, counted) = c.in_ok-found.ensures.faulty in (
      all,
      are,
      refused_parts (option_copied c.args.name) all c.as_slice.result.now c.in_ok-found.found.count c.new-out.result.items c.push_faulty_lines.new.out.items _
          c.new-out.ensures.items c.in_ok-push_faulty_lines.ensures c.in_ok-push_more_lines.ensures (c.as_slice.ensures.value ∙ first) counted,
    )
