use Rattle.std.proofs.Common.{◌∙◌}
use Rattle.cmd_catalogue.proofs.FileRows.{no_row}
use Rattle.cmd_catalogue.proofs.files.push_file_rows.Goals as goal

pub loop-entry-init : goal.loop-entry-init
loop-entry-init c = no_row c.args.all.now c.survey.result.now _ c.args.out.now.items c.survey.ensures (c.into_iter-entry-iterator.ensures.into_iter_gives ∙ c.slots-entry-items.ensures.slots)
