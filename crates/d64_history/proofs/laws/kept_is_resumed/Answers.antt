use Rattle.d64_history.proofs.Resumed.{kept-resumed}
use Rattle.d64_history.proofs.laws.kept_is_resumed.Goals as goal

pub returns : goal.returns
returns c = kept-resumed
