use Rattle.d64_history.proofs.FilesRead.{one_history}
use Rattle.d64_history.proofs.laws.session_files_decide.Goals as goal

pub returns : goal.returns
returns c = one_history
