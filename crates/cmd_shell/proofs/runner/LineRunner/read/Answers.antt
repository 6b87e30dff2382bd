use Rattle.cmd_shell.proofs.RunEnds.{EndsWith-ended, RanRead-by, Ran-ended}
use Rattle.cmd_shell.proofs.runner.LineRunner.read.Goals as goal

pub returns-in-Ok-clause-kept : goal.returns-in-Ok-clause-kept
returns-in-Ok-clause-kept g c = c.in-Ok.ensures.ended.here.keeps

pub returns-in-Ok-clause-ran : goal.returns-in-Ok-clause-ran
returns-in-Ok-clause-ran g c = Ran-ended g.W.Write.contents g.H.Host.state _ _ _ _ c.in-Ok.ended c.in-Ok.ensures.ended

pub returns-in-Ok-clause-streams : goal.returns-in-Ok-clause-streams
returns-in-Ok-clause-streams g c = EndsWith-ended g.W.Write.contents g.H.Host.state _ _ _ c.in-Ok.ended _ c.in-Ok.ensures.ended.here c.in-Ok.ensures.read

pub returns-in-Err-clause-kept : goal.returns-in-Err-clause-kept
returns-in-Err-clause-kept g c = c.in-Err.ensures.ended.has_come.here.keeps

pub returns-in-Err-clause-ran : goal.returns-in-Err-clause-ran
returns-in-Err-clause-ran g c = RanRead-by g.W.Write.contents g.H.Host.state _ _ _ _ c.in-Err.ensures.ended.consumed c.in-Err.ensures.ended.lost c.in-Err.ensures.ended.has_come

pub returns-in-Err-clause-streams : goal.returns-in-Err-clause-streams
returns-in-Err-clause-streams g c = (c.in-Err.ensures.read, c.in-Err.ensures.ended.has_come.here.unfailed)
