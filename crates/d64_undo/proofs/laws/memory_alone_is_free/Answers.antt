use Rattle.d64_undo.proofs.Runs.{same_run}
use Rattle.d64_undo.proofs.laws.memory_alone_is_free.Goals as goal

pub returns : goal.returns
returns c = same_run
