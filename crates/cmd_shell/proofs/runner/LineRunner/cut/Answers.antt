use Rattle.std.proofs.Common.{append-nil, sym, refl}
use Rattle.cmd_shell.proofs.RunEnds.{Ran-ended, RanRead-by, never_read, written_by, failed_by}
use Rattle.cmd_shell.proofs.runner.LineRunner.cut.Goals as goal

pub returns-in-Ok-clause-kept : goal.returns-in-Ok-clause-kept
returns-in-Ok-clause-kept g c = c.in-Ok.ensures.ended.keeps

pub returns-in-Ok-clause-ran : goal.returns-in-Ok-clause-ran
returns-in-Ok-clause-ran g c = Ran-ended g.W.Write.contents g.H.Host.state _ _ _ _ c.in-Ok.ended record { input = c.args.text.now; all = refl; here = c.in-Ok.ensures.ended }

pub returns-in-Ok-clause-written : goal.returns-in-Ok-clause-written
returns-in-Ok-clause-written g c = written_by g.W.Write.contents g.H.Host.state _ _ _ c.in-Ok.ended c.in-Ok.ensures.ended

pub returns-in-Ok-clause-failed : goal.returns-in-Ok-clause-failed
returns-in-Ok-clause-failed g c = failed_by g.W.Write.contents g.H.Host.state _ _ _ c.in-Ok.ended c.in-Ok.ensures.ended

pub returns-in-Ok-clause-long : goal.returns-in-Ok-clause-long
returns-in-Ok-clause-long g c = never_read g.W.Write.contents g.H.Host.state _ _ _ c.in-Ok.ended _ c.in-Ok.ensures.ended

pub returns-in-Err-clause-kept : goal.returns-in-Err-clause-kept
returns-in-Err-clause-kept g c = c.in-Err.ensures.ended.here.keeps

pub returns-in-Err-clause-ran : goal.returns-in-Err-clause-ran
returns-in-Err-clause-ran g c = RanRead-by g.W.Write.contents g.H.Host.state _ _ _ _ c.args.text.now (sym (append-nil c.args.text.now)) c.in-Err.ensures.ended
