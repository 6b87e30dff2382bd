use Rattle.cmd_shell.proofs.ScriptHistories.{scripts-are_runs}
use Rattle.cmd_shell.proofs.laws.scripts_are_runs.Goals as goal

pub returns : goal.returns
returns c = scripts-are_runs
