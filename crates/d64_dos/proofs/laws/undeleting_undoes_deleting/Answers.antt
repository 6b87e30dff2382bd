use Rattle.d64_dos.proofs.BroughtBack.{undoes_deleting}
use Rattle.d64_dos.proofs.laws.undeleting_undoes_deleting.Goals as goal

pub returns : goal.returns
returns c = undoes_deleting
