use Rattle.d64_survey.proofs.NotedWays.{noted_none}
use Rattle.d64_survey.proofs.way_table.WayTable.empty.Goals as goal

pub returns : goal.returns
returns c = λ block. noted_none 768 block
