use Rattle.d64_scratched.proofs.Untouched.{whole-untouched}
use Rattle.d64_scratched.proofs.loss_laws.whole_files_are_untouched.Goals as goal

pub returns : goal.returns
returns c = whole-untouched
