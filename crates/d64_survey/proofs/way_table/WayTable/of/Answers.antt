use Rattle.d64_survey.proofs.NotedWays.{none_noted}
use Rattle.d64_survey.proofs.way_table.WayTable.of.Goals as goal

pub loop-entry-init : goal.loop-entry-init
loop-entry-init c = none_noted _ _ _ c.empty-ways.ensures
