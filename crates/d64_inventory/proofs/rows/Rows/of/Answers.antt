use Rattle.std.proofs.Common.{ap, ◌∙◌}
use Rattle.d64_survey.specs.Dump.{DumpView}
use Rattle.d64_inventory.specs.Rows.{rows_from}
use Rattle.d64_inventory.proofs.RowLists.{from_first}
use Rattle.d64_inventory.proofs.rows.Rows.of.Goals as goal

pub returns : goal.returns
returns c = ap (λ (d : DumpView). rows_from d 0) c.of.ensures ∙ from_first c.args.inspection.now
