use Rattle.d64_scratched.proofs.NotLost.{not_lost-restored}
use Rattle.d64_scratched.proofs.loss_laws.files_that_are_not_lost_can_be_restored.Goals as goal

pub returns : goal.returns
returns c = not_lost-restored
