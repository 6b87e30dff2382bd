use Rattle.d64_history.proofs.Histories.{retraces}
use Rattle.d64_history.proofs.laws.retraced.Goals as goal

pub returns : goal.returns
returns c = retraces
