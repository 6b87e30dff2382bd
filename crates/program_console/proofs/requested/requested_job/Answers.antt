use Rattle.std.proofs.Common.{map}
use Rattle.program_console.specs.RequestedJob.{named_arguments}
use Rattle.program_console.proofs.requested.requested_job.Goals as goal

-- an error as it is shown is also one of the arguments as they were given
pub returns-in-Err-clause-fault : goal.returns-in-Err-clause-fault
returns-in-Err-clause-fault c = c.shown_fault.ensures.fault (named_arguments (map (λ argument. argument.now) c.args.arguments.now)) c.in-Err.ensures.fault
