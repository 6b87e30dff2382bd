-- How a run without a list has ended, by how it was reported.
use Rattle.std.proofs.Common.{◌≡◌, ℕ, Result, subst}
use Rattle.program_surveys.specs.Runs.{RunState}
use Rattle.program_surveys.specs.declared.report.Verdict.{Verdict}
use Rattle.program_console.specs.Outside.{Outside}
use Rattle.program_console.specs.declared.stream_fault.StreamFault.{StreamFault}
use Rattle.program_surveys.specs.JobEnds.{EndedRun, ReportsRun, first_state}

-- a run that began with a clean verdict has ended as it was reported
pub run_ended : (Runs : RunState → RunState → Result (Unit {0}) StreamFault → Type 0) (old new : Outside) (status : ℕ) (ended : Result (Unit {0}) StreamFault) (first last : RunState) (worst : Verdict)
    → first ≡ first_state old → Runs first last ended → new.reader ≡ old.reader → new.host ≡ last.host → new.output ≡ last.reported.output
    → worst ≡ last.reported.worst → ReportsRun ended worst last.reported.error new.error status → EndedRun Runs old new status
run_ended Runs old new status ended first last worst is ran reader host output verdict reports = record {
  ended = ended;
  last = last;
  ran = subst (λ (s : RunState). Runs s last ended) is ran;
  reader = reader;
  host = host;
  output = output;
  reports = subst (λ (w : Verdict). ReportsRun ended w last.reported.error new.error status) verdict reports;
}
