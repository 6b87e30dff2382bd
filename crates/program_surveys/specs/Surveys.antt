-- How a survey of files ends.
use Rattle.std.specs.Prelude.{◌≡◌, ℕ, List, Bool, true, false, MatchBool, bytes_eq, map, codes, Option, Result, Ok, Err}
use Rattle.host_storage.specs.declared.host.HostFault.{HostFault}
use Rattle.host_storage.specs.declared.host.HostFault.TheVariants as refusals
use Rattle.host_storage.specs.Output.{Account}
use Rattle.program_surveys.specs.Names.{File}
use Rattle.program_surveys.specs.FileOutcomes.{Effects}
use Rattle.host_storage.specs.Files.{HostState}
use Rattle.host_storage.specs.Host.{CountsDevice, Opens, one_more_failure}
use Rattle.program_surveys.specs.Runs.{Begins, Runs, RunState, run_state, reported_of}
use Rattle.program_surveys.specs.Lists.{RunsStream}
use Rattle.program_console.specs.declared.stream_fault.StreamFault.{StreamFault}
use Rattle.program_console.specs.declared.stream_fault.StreamFault.TheVariants as faults
use Rattle.program_surveys.specs.declared.report.Verdict.{Verdict}
use Rattle.program_surveys.specs.SurveyFiles.{SurveyFiles, Named, ListedIn}

-- the list is the standard input
abbrev pub is_input : List ℕ → Bool
is_input list = bytes_eq list (codes "-")

-- the fault of a run for a list that cannot be opened: memory ran out, or the list cannot be read
abbrev pub fault_of_list : HostFault → StreamFault
fault_of_list (refusals.Memory error) = faults.Memory
fault_of_list fault = faults.Read

-- a file of the host was opened, which keeps its files; the result has its bytes, as far as they
-- are known
abbrev pub IsOpened : List ℕ → HostState → Result (Option (List ℕ)) HostFault → HostState → Type 0
IsOpened name old outcome new =
    Opens old.files name outcome × (new.files ≡ old.files) × CountsDevice old.failures new.failures outcome

-- the host after a list of it was read; the flag says whether a read failed, which is counted
abbrev pub after_reading : Bool → HostState → HostState
after_reading true host = record host { failures = one_more_failure host.failures }
after_reading false host = host

-- how a run ends over the names of a list of the host that was opened with this result: the list is
-- read as it comes, and some of it may be left; a failed read ends the run, and is counted; or no
-- file is processed
abbrev pub RunsOpened : {A : Type 0} → Effects → ℕ → Result (Option (List ℕ)) HostFault → RunState → RunState → Result A StreamFault → Type 0
RunsOpened effects separator (Ok reader) first last result =
    (left : Option (List ℕ)) × (has_failed : Bool) × (read : RunState) × RunsStream effects separator reader left has_failed first read result
    × (has_failed ≡ true → result ≡ Err faults.Read) × (last ≡ run_state (after_reading has_failed read.host) read.reported)
RunsOpened effects separator (Err fault) first last result = (result ≡ Err (fault_of_list fault)) × (last ≡ first)

-- how a run over the names of a list of the host ends
abbrev pub RunsListFile : {A : Type 0} → Effects → ℕ → List ℕ → RunState → RunState → Result A StreamFault → Type 0
RunsListFile effects separator list first last result =
    (outcome : Result (Option (List ℕ)) HostFault) × (host : HostState) × IsOpened list first.host outcome host × RunsOpened effects separator outcome (run_state host first.reported) last result

-- how a run over the files of a survey ends, what it leaves of the input, and whether a read of the
-- input has failed
abbrev pub RunsOver : {A : Type 0} → Effects → SurveyFiles → Option (List ℕ) → Option (List ℕ) → Bool → RunState → RunState → Result A StreamFault → Type 0
RunsOver effects (Named names) reader left has_failed first last result = (left ≡ reader) × Runs effects (map File names) first last result
RunsOver effects (ListedIn list separator) reader left has_failed first last result =
    MatchBool (is_input list)
    (RunsStream effects separator reader left has_failed first last result)
    ((left ≡ reader) × RunsListFile effects separator list first last result)

-- how a survey goes on after the heading: over the files, or not at all if the heading was not
-- printed
abbrev pub GoesOn : {A B : Type 0} → Effects → SurveyFiles → Option (List ℕ) → Option (List ℕ) → Bool → Result B StreamFault → RunState → RunState → Result A StreamFault → Type 0
GoesOn effects files reader left has_failed (Ok done) first last result = RunsOver effects files reader left has_failed first last result
GoesOn effects files reader left has_failed (Err fault) first last result = (left ≡ reader) × (last ≡ first) × (result ≡ Err fault)

-- how a survey ends: the heading is printed, and then the files are processed
pub record Surveys (effects : Effects) (heading : List ℕ) (files : SurveyFiles) (reader left : Option (List ℕ)) (has_failed : Bool) (first last : RunState) (ended : Result (Unit {0}) StreamFault) : Type 0 where
  pub begun : Result (Unit {0}) StreamFault
  pub output : Account
  pub begins : Begins heading first.reported.output output begun
  pub goes_on : GoesOn effects files reader left has_failed begun (run_state first.host (reported_of output first.reported.error first.reported.worst)) last ended

-- the result of a survey that ended with this: the worst verdict, or the fault
abbrev pub EndsSurveyWith : Verdict → Result (Unit {0}) StreamFault → Result Verdict StreamFault → Type 0
EndsSurveyWith worst (Ok done) said = said ≡ Ok worst
EndsSurveyWith worst (Err fault) said = said ≡ Err fault
