use Rattle.cmd_shell.proofs.RunEnds.{HasRun-none}
use Rattle.cmd_shell.proofs.runner.ScriptRunner.run_text.Goals as goal

pub cut-requires-clause-begun : goal.cut-requires-clause-begun
cut-requires-clause-begun g c = HasRun-none g.W.Write.contents g.H.Host.state _ c.new-2.ensures c.new.ensures c.requires.unfailed
