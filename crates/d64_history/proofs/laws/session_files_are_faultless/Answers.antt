use Rattle.d64_history.proofs.FilesRead.{faultless}
use Rattle.d64_history.proofs.Resumed.{files}
use Rattle.d64_history.proofs.laws.session_files_are_faultless.Goals as goal

pub returns-clause-faultless : goal.returns-clause-faultless
returns-clause-faultless c = faultless

pub returns-clause-files : goal.returns-clause-files
returns-clause-files c = files
