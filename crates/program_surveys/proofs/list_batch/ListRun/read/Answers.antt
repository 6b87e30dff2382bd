use Rattle.program_surveys.proofs.ListStreams.{LosesStream-by, RunsStream-ended, never_lost}
use Rattle.program_surveys.proofs.list_batch.ListRun.read.Goals as goal

pub returns-in-Ok-clause-unreadable : goal.returns-in-Ok-clause-unreadable
returns-in-Ok-clause-unreadable g c = λ is. absurd (never_lost _ _ _ _ c.in-Ok.ended c.in-Ok.ensures.ended.here is)

pub returns-in-Ok-clause-kept : goal.returns-in-Ok-clause-kept
returns-in-Ok-clause-kept g c = c.in-Ok.ensures.ended.here.keeps

pub returns-in-Ok-clause-delivered : goal.returns-in-Ok-clause-delivered
returns-in-Ok-clause-delivered g c = c.in-Ok.ensures.ended.here.delivered

pub returns-in-Ok-clause-processed : goal.returns-in-Ok-clause-processed
returns-in-Ok-clause-processed g c = RunsStream-ended _ _ _ c.args.self.now.list.now.separator _ _ _ c.in-Ok.ended c.in-Ok.ensures.ended

pub returns-in-Err-clause-kept : goal.returns-in-Err-clause-kept
returns-in-Err-clause-kept g c = c.in-Err.ensures.ended.has_come.here.keeps

pub returns-in-Err-clause-processed : goal.returns-in-Err-clause-processed
returns-in-Err-clause-processed g c = LosesStream-by _ _ _ c.args.self.now.list.now.separator _ _ _ c.in-Err.ensures.ended

pub read_parts-requires-clause-delivered : goal.read_parts-requires-clause-delivered
read_parts-requires-clause-delivered g c = c.requires.begun.delivered.0
