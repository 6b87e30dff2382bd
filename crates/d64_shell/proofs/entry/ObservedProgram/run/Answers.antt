use Rattle.d64_shell.proofs.entry.ObservedProgram.run.Goals as goal

-- the job skips nothing, or the arguments would ask for that
pub returns-in-Ok-clause-silent : goal.returns-in-Ok-clause-silent
returns-in-Ok-clause-silent g c = λ unrequested is. c.do_job.ensures.silent (λ passes. unrequested (c.in-Ok.job, c.in-Ok.ensures.job, passes)) is
