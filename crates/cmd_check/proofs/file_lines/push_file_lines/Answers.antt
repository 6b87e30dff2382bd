use Rattle.std.proofs.Common.{◌∙◌}
use Rattle.cmd_check.proofs.FileLines.{no_line}
use Rattle.cmd_check.proofs.file_lines.push_file_lines.Goals as goal

pub loop-entry-init : goal.loop-entry-init
loop-entry-init c = no_line c.args.inspection.now c.survey.result.now _ c.args.out.now.items c.survey.ensures (c.into_iter-entry-iterator.ensures.into_iter_gives ∙ c.slots-entry-items.ensures.slots)
