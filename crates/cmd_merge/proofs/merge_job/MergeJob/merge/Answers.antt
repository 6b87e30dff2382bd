use Rattle.std.proofs.Common.{inr, rules}
use Rattle.cmd_merge.proofs.MergeRuns.{wants_memory}
use Rattle.cmd_merge.proofs.merge_job.MergeJob.merge.Goals as goal

-- the files were read, and then memory ran out
pub returns-in_err-finish-in-Ok-clause-memory : goal.returns-in_err-finish-in-Ok-clause-memory
returns-in_err-finish-in-Ok-clause-memory g c =
    wants_memory _ c.from_residual-in_err-finish-in-Ok.result (search rules)
    (inr (g.H.Host.state c.read_all.new.host, c.read_all.new.readings, c.read_all.ensures.files, search rules, c.in_err-finish-in-Ok.ensures.memory))
