-- How a job ends, by how its work does.
use Rattle.std.proofs.Common.{◌≡◌, ℕ, sym, subst}
use Rattle.host_storage.specs.Output.{Account}
use Rattle.program_arguments.specs.declared.jobs.Job.{Job}
use Rattle.cmd_shell.specs.Transcript.{RunOptions}
use Rattle.cmd_shell.specs.Beginnings.{Beginning, Source}
use Rattle.d64_shell.specs.Jobs.{JobWork, Script, work_of}
use Rattle.program_console.specs.Outside.{Outside}
use Rattle.program_console.specs.Faults.{Reports}
use Rattle.program_console.specs.declared.program_fault.ProgramFault.{ProgramFault}
use Rattle.cmd_shell.specs.ShellRuns.{EndedShell}
use Rattle.d64_shell.specs.Program.{EndedWork}

-- a job whose work is a script has ended as that has
pub script_ended : (job : Job) (beginning begun : Beginning) (source from : Source) (options at : RunOptions) (old new : Outside) (status : ℕ)
    → work_of job ≡ Script beginning source options → begun ≡ beginning → from ≡ source → at ≡ options → EndedShell begun from at old new status
    → EndedWork (work_of job) old new status
script_ended job beginning begun source from options at old new status is same_beginning same_source same_options ended =
    subst (λ (work : JobWork). EndedWork work old new status) (sym is)
    (subst (λ (m : RunOptions). EndedShell beginning source m old new status) same_options
    (subst (λ (s : Source). EndedShell beginning s at old new status) same_source
    (subst (λ (b : Beginning). EndedShell b from at old new status) same_beginning ended)))

-- the line of a fault is written to what the standard error was before, if it is the same then
pub reports_after : (fault : ProgramFault) (error same reported : Account) (status : ℕ) → same ≡ error → Reports fault same reported status → Reports fault error reported status
reports_after fault error same reported status is reports = subst (λ (a : Account). Reports fault a reported status) is reports
