use Rattle.std.proofs.Common.{◌↔◌, Bool, IfOk, IfSome, IsTrue, Option, Some, None, map}
use Rattle.std.specs.Option.{ok_or}
use Rattle.program_arguments.specs.ProgramJobs.{AsksForProgram}
use Rattle.program_arguments.proofs.ProgramJobs.{is_asked}
use Rattle.program_console.specs.RequestedJob.{named_arguments}
use Rattle.program_console.proofs.requested.asks_for_program.Goals as goal

if_ok : {A E : Type 0} (value : Option A) (error : E) (Holds : A → Type 0) → IfSome value Holds → IfOk (ok_or value error) Holds
if_ok None error Holds is = tt
if_ok (Some value) error Holds is = is

pub returns : goal.returns
returns c =
    let arguments = named_arguments (map (λ argument. argument.now) c.args.arguments.now) in
    let Holds : Bool → Type 0 = λ asks. IsTrue asks ↔ AsksForProgram arguments in
    let asked = is_asked arguments c.named_job-read.result c.is_read_as_for_program.result c.named_job-read.ensures.job c.named_job-read.ensures.fault c.is_read_as_for_program.ensures in
    rw c.ok_or.ensures.value (if_ok c.is_read_as_for_program.result _ Holds asked)
