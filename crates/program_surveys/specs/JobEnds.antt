-- How the end of a survey, or of a task over all files at once, is reported.
use Rattle.std.specs.Prelude.{◌≡◌, ℕ, List, Option, None, MatchBool, Result, Ok, Err, ◌⊎◌}
use Rattle.host_storage.specs.Files.{Files}
use Rattle.host_storage.specs.declared.host.HostFault.TheVariants.{Device}
use Rattle.host_storage.specs.Output.{Account, Writes}
use Rattle.out_messages.specs.FaultLines.{unread_line}
use Rattle.program_surveys.specs.FileOutcomes.{Effects, status_of as verdict_status}
use Rattle.program_surveys.specs.Runs.{RunState, Reported, run_state, reported_of}
use Rattle.program_console.specs.Reasons.{IsReason, with_known_reason}
use Rattle.program_console.specs.declared.reason.Reason.{Reason}
use Rattle.program_console.specs.declared.stream_fault.StreamFault.{StreamFault}
use Rattle.program_console.specs.declared.stream_fault.StreamFault.TheVariants as run_faults
use Rattle.program_surveys.specs.declared.report.Verdict.{Verdict}
use Rattle.program_surveys.specs.declared.report.Verdict.TheVariants.{Clean}
use Rattle.program_surveys.specs.SurveyFiles.{SurveyFiles, list_name}
use Rattle.program_surveys.specs.Surveys.{Surveys, is_input}
use Rattle.program_console.specs.declared.program_fault.ProgramFault.TheVariants.{Write, Memory}
use Rattle.program_console.specs.Outside.{Outside}
use Rattle.program_console.specs.Faults.{Reports, fault_of_stream}

-- why a list cannot be read, as far as a host with these files can say: no reason for the standard
-- input, and otherwise what is at the list's path
abbrev pub IsListReason : Option Files → List ℕ → Option Reason → Type 0
IsListReason files list reason = MatchBool (is_input list) (reason ≡ None) (IsReason files list Device reason)

-- how the fault of a survey is reported if the host has these files: by its line, with status 2;
-- the line for a list has the reason, if one is known
abbrev pub ReportsFault : Option Files → List ℕ → StreamFault → Account → Account → ℕ → Type 0
ReportsFault files list run_faults.Read error reported status =
    ((reason : Option Reason) × IsListReason files list reason × (status ≡ 2) × Writes error reported (with_known_reason reason (unread_line list)))
    ⊎ Reports Memory error reported status
ReportsFault files list run_faults.Write error reported status = Reports Write error reported status
ReportsFault files list run_faults.Memory error reported status = Reports Memory error reported status

-- how the end of a survey with this result is reported: by the status of the worst verdict, or as a
-- fault
abbrev pub ReportsEnd : Option Files → List ℕ → Result (Unit {0}) StreamFault → Reported → Account → ℕ → Type 0
ReportsEnd files list (Ok done) old reported status = (reported ≡ old.error) × (status ≡ verdict_status old.worst)
ReportsEnd files list (Err fault) old reported status = ReportsFault files list fault old.error reported status

-- the state in which a run begins: that of the program, with a clean verdict
abbrev pub first_state : Outside → RunState
first_state old = run_state old.host (reported_of old.output old.error Clean)

-- a survey has ended
pub record EndedSurvey (effects : Effects) (heading : List ℕ) (files : SurveyFiles) (old new : Outside) (status : ℕ) : Type 0 where
  pub ended : Result (Unit {0}) StreamFault
  pub last : RunState
  pub surveyed : Surveys effects heading files old.reader new.reader new.reading.has_failed (first_state old) last ended
  pub host : new.host ≡ last.host
  pub output : new.output ≡ last.reported.output
  pub reports : ReportsEnd last.host.files (list_name files) ended last.reported new.error status

-- how the end of a run with this result and this worst verdict is reported: by the status of the
-- verdict, or by the line of a fault
abbrev pub ReportsRun : Result (Unit {0}) StreamFault → Verdict → Account → Account → ℕ → Type 0
ReportsRun (Ok done) worst error reported status = (reported ≡ error) × (status ≡ verdict_status worst)
ReportsRun (Err fault) worst error reported status = Reports (fault_of_stream fault) error reported status

-- a run of this kind has ended, which read nothing of the input
pub record EndedRun (Runs : RunState → RunState → Result (Unit {0}) StreamFault → Type 0) (old new : Outside) (status : ℕ) : Type 0 where
  pub ended : Result (Unit {0}) StreamFault
  pub last : RunState
  pub ran : Runs (first_state old) last ended
  pub reader : new.reader ≡ old.reader
  pub host : new.host ≡ last.host
  pub output : new.output ≡ last.reported.output
  pub reports : ReportsRun ended last.reported.worst last.reported.error new.error status
