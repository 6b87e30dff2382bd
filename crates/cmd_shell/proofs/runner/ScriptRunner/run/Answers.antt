use Rattle.cmd_shell.proofs.RunEnds.{HasRun-none}
use Rattle.cmd_shell.proofs.runner.ScriptRunner.run.Goals as goal

pub read-requires-clause-begun : goal.read-requires-clause-begun
read-requires-clause-begun g c = HasRun-none g.W.Write.contents g.H.Host.state _ c.new-2.ensures c.new.ensures c.requires.unfailed
