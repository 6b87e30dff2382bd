-- What is printed for arguments that ask for no job.
use Rattle.std.specs.Prelude.{◌≡◌, ℕ, true, List, MatchOption, ◌⊎◌}
use Rattle.std.specs.Io.KnownBytes.{Appends, Keeps}
use Rattle.host_storage.specs.Output.{Account, AppendsPart, Writes}
use Rattle.program_arguments.specs.Requested.{IsHelpOrVersion}
use Rattle.program_arguments.specs.declared.jobs.JobFault.{JobFault}
use Rattle.program_arguments.specs.FaultText.{fault_text_of}
use Rattle.program_console.specs.declared.program_fault.ProgramFault.TheVariants.{Write, Memory}
use Rattle.program_console.specs.Faults.{ReportsText, Reports}

-- help or the version was printed whole, with status 0; or there was a fault: a first part of it
-- was printed as a write or the flush failed, or memory ran out
abbrev pub HasShown : Account → Account → Account → Account → ℕ → Type 0
HasShown old new faults reported status =
    ((text : List ℕ) × Appends old.contents new.contents text × (reported ≡ faults) × (status ≡ 0))
    ⊎ (((text : List ℕ) × AppendsPart old.contents new.contents text × (new.has_failed ≡ true) × Reports Write faults reported status)
    ⊎ (Keeps old.contents new.contents × Reports Memory faults reported status))

-- what is wrong with the arguments was reported with status 2, whole unless writing it failed; or
-- memory ran out
abbrev pub HasReported : Account → Account → ℕ → Type 0
HasReported faults reported status = ((text : List ℕ) × Writes faults reported text × (status ≡ 2)) ⊎ Reports Memory faults reported status

-- the help or the version was printed, or what clap finds wrong with the arguments was reported
abbrev pub PrintsOrReports : JobFault → Account → Account → Account → Account → ℕ → Type 0
PrintsOrReports fault old new faults reported status =
    (IsHelpOrVersion fault × HasShown old new faults reported status) ⊎ (¬ (IsHelpOrVersion fault) × (new ≡ old) × HasReported faults reported status)

-- how the program ends on arguments that ask for no job: the text of the fault is reported; or, if
-- clap found it, the help is printed or the error reported
abbrev pub ReportsNoJob : JobFault → Account → Account → Account → Account → ℕ → Type 0
ReportsNoJob fault old new faults reported status =
    MatchOption (fault_text_of fault) (PrintsOrReports fault old new faults reported status) (λ text. (new ≡ old) × ReportsText text faults reported status)
