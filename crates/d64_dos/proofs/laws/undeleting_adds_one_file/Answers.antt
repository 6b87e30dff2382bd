use Rattle.d64_dos.proofs.BroughtBack.{one_file_more}
use Rattle.d64_dos.proofs.laws.undeleting_adds_one_file.Goals as goal

pub returns : goal.returns
returns c = one_file_more
