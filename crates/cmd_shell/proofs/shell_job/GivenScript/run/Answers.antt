use Rattle.std.proofs.Common.{refl}
use Rattle.cmd_shell.proofs.shell_job.GivenScript.run.Goals as goal

-- the text was run, and nothing of the input was read
pub returns-clause-ran : goal.returns-clause-ran
returns-clause-ran g c = rw (c.in-Some.is) (refl, c.run_text.ensures.ran)
