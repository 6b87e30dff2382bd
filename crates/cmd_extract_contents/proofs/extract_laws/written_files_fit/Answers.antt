use Rattle.cmd_extract_contents.proofs.Fitting.{all_fit}
use Rattle.cmd_extract_contents.proofs.extract_laws.written_files_fit.Goals as goal

pub returns : goal.returns
returns c = all_fit
