-- What the program does with its arguments, its streams and a host.
use Rattle.std.specs.Prelude.{◌≡◌, ℕ, List, ◌⊎◌}
use Rattle.program_arguments.specs.Requested.{IsFault, IsJob}
use Rattle.program_arguments.specs.declared.jobs.Job.{Job}
use Rattle.program_arguments.specs.declared.jobs.JobFault.{JobFault}
use Rattle.program_surveys.specs.FileOutcomes.{by_rule}
use Rattle.cmd_extract.specs.Effects.{unpacks}
use Rattle.program_console.specs.Outside.{Outside}
use Rattle.program_console.specs.NoJob.{ReportsNoJob}
use Rattle.program_console.specs.RequestedJob.{named_arguments, shown_arguments, IsErrorOf}
use Rattle.cmd_basic.specs.ToolRuns.{EndedConversion}
use Rattle.cmd_diff.specs.Comparisons.{EndedComparison}
use Rattle.program_surveys.specs.JobEnds.{EndedSurvey}
use Rattle.cmd_merge.specs.Merges.{EndedMerge}
use Rattle.cmd_shell.specs.ShellRuns.{EndedShell}
use Rattle.d64_shell.specs.Jobs.{JobWork, Script, Conversion, Survey, Extraction, Comparison, Merging, work_of, IsScript, PassesOver}

-- how a job with this work ended
abbrev pub EndedWork : JobWork → Outside → Outside → ℕ → Type 0
EndedWork (Script beginning source options) old new status = EndedShell beginning source options old new status
EndedWork (Conversion tool name target) old new status = EndedConversion tool name target old new status
EndedWork (Survey rule heading files) old new status = EndedSurvey (by_rule rule) heading files old new status
EndedWork (Extraction setup heading files) old new status = EndedSurvey (unpacks setup) heading files old new status
EndedWork (Comparison rule old_name new_name) old new status = EndedComparison rule old_name new_name old new status
EndedWork (Merging setup) old new status = EndedMerge setup old new status

-- the arguments ask for the shell
abbrev pub AsksForShell : List (List ℕ) → Type 0
AsksForShell after = (job : Job) × IsJob (named_arguments after) job × IsScript (work_of job)

-- the arguments ask to skip folders that exist, of each of which a line is written though all is
-- well
abbrev pub AsksToPassOver : List (List ℕ) → Type 0
AsksToPassOver after = (job : Job) × IsJob (named_arguments after) job × PassesOver (work_of job)

-- what the program has done, and its status: the job that the arguments ask for has ended; or they
-- ask for none, which is reported, with nothing read and no file touched; an error of clap's is
-- then one of the arguments as they are shown
abbrev pub Ended : List (List ℕ) → Outside → Outside → ℕ → Type 0
Ended after old new status =
    ((job : Job) × IsJob (named_arguments after) job × EndedWork (work_of job) old new status)
    ⊎ ((fault : JobFault) × IsFault (named_arguments after) fault × IsErrorOf (named_arguments (shown_arguments after)) fault × (new.reader ≡ old.reader) × (new.host ≡ old.host) × ReportsNoJob fault old.output new.output old.error new.error status)
