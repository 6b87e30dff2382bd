use Rattle.cmd_diff.proofs.Unchanged.{equal_if_silent}
use Rattle.cmd_diff.proofs.laws.images_are_listed.Goals as goal

pub returns : goal.returns
returns c = equal_if_silent
