-- Runs over files: the result of each, and how a run stops.
use Rattle.std.specs.Prelude.{◌≡◌, ℕ, List, [], ◌∷◌, ◌++◌, Option, Some, None, Result, Ok, Err, ◌⊎◌, true}
use Rattle.std.specs.Io.KnownBytes.{Appends}
use Rattle.host_storage.specs.Files.{HostState}
use Rattle.host_storage.specs.Host.{Fetches, CountsDevice}
use Rattle.host_storage.specs.declared.host.HostFault.{HostFault}
use Rattle.host_storage.specs.declared.host.HostFault.TheVariants.{Missing, Device, TooLong, Memory}
use Rattle.host_storage.specs.Input.{input_limit}
use Rattle.host_storage.specs.Output.{Account, AppendsPart, Writes}
use Rattle.program_console.specs.Outside.{account_at}
use Rattle.program_console.specs.declared.console.Outputs.{Outputs}
use Rattle.program_surveys.specs.Names.{Request, File, NoFile}
use Rattle.program_console.specs.Reasons.{IsReason, with_known_reason}
use Rattle.program_console.specs.declared.reason.Reason.{Reason}
use Rattle.program_surveys.specs.FileOutcomes.{FileOutcome, Effects, worse_verdict}
use Rattle.program_surveys.specs.declared.report.Verdict.{Verdict}
use Rattle.host_storage.specs.declared.output.WriteFault.{WriteFault}
use Rattle.program_console.specs.declared.stream_fault.StreamFault.{StreamFault}
use Rattle.program_console.specs.declared.stream_fault.StreamFault.TheVariants as faults

-- what a run has written so far, and the worst verdict
pub record Reported : Type 0 where
  pub output : Account
  pub error : Account
  pub worst : Verdict

-- the state of a run: the host, and what was written so far
pub record RunState : Type 0 where
  pub host : HostState
  pub reported : Reported

abbrev pub reported_of : Account → Account → Verdict → Reported
reported_of output error worst = record { output = output; error = error; worst = worst }

abbrev pub run_state : HostState → Reported → RunState
run_state host reported = record { host = host; reported = reported }

-- what the outputs have so far, by the bytes of their writers
abbrev pub reported_at : {W F : Type 0} → (W → Option (List ℕ)) → (F → Option (List ℕ)) → Outputs W F → Verdict → Reported
reported_at written complained outputs worst = reported_of (account_at written outputs.output) (account_at complained outputs.faults) worst

-- the state of a run, by the bytes of the two writers and the state of the host
abbrev pub run_state_at : {W F : Type 0} → (W → Option (List ℕ)) → (F → Option (List ℕ)) → Outputs W F → HostState → Verdict → RunState
run_state_at written complained outputs host worst = run_state host (reported_at written complained outputs worst)

-- what a fetch gives to a task: the bytes, or None if the file cannot be read; nothing at all if
-- memory ran out
abbrev pub given_by : Result (List ℕ) HostFault → Option (Option (List ℕ))
given_by (Ok bytes) = Some (Some bytes)
given_by (Err Missing) = Some None
given_by (Err Device) = Some None
given_by (Err TooLong) = Some None
given_by (Err (Memory error)) = None

-- a file was fetched from the host, whose files stay as they were
abbrev pub IsFetched : List ℕ → HostState → Result (List ℕ) HostFault → HostState → Type 0
IsFetched name old outcome new =
    Fetches old.files name input_limit outcome × (new.files ≡ old.files) × CountsDevice old.failures new.failures outcome

-- what was read for a task: the bytes of a file, or None if it cannot be read; for a name that
-- cannot be a file's the host is left alone
abbrev pub IsRead : Request → HostState → Option (List ℕ) → HostState → Type 0
IsRead (File name) old bytes new = (outcome : Result (List ℕ) HostFault) × IsFetched name old outcome new × (given_by outcome ≡ Some bytes)
IsRead (NoFile name reason) old bytes new = (bytes ≡ None) × (new ≡ old)

-- why a file could not be read, as far as the host can say: no reason if it was read, the reason of
-- the name if it cannot be a file's, and otherwise that of the read's fault
abbrev pub SaysWhy : Request → HostState → Option (List ℕ) → HostState → Option Reason → Type 0
SaysWhy request old (Some bytes) new reason = reason ≡ None
SaysWhy (File name) old None new reason =
    (fault : HostFault) × IsFetched name old (Err fault) new × (given_by (Err fault) ≡ Some None) × IsReason new.files name fault reason
SaysWhy (NoFile name why) old None new reason = reason ≡ Some why

-- a result with the reason, if one is known, behind the line for the standard error
abbrev pub explained : Option Reason → FileOutcome → FileOutcome
explained reason outcome = record outcome { complaint = with_known_reason reason outcome.complaint }

-- how a name is shown
abbrev pub shown_request : Request → List ℕ
shown_request (File name) = name
shown_request (NoFile name reason) = name

-- a result was written: all of it to the standard output, which was flushed, and to the standard
-- error unless that failed; and its verdict counts
pub record IsReported (outcome : FileOutcome) (old new : Reported) : Type 0 where
  pub printed : Appends old.output.contents new.output.contents outcome.printed
  pub unfailed : new.output.has_failed ≡ old.output.has_failed
  pub complained : Writes old.error new.error outcome.complaint
  pub worst : new.worst ≡ worse_verdict old.worst outcome.verdict

-- the output failed, and has the first part of a result
pub record IsCut (outcome : FileOutcome) (old new : Reported) : Type 0 where
  pub part : AppendsPart old.output.contents new.output.contents outcome.printed
  pub failed : new.output.has_failed ≡ true
  pub silent : new.error ≡ old.error
  pub worst : new.worst ≡ old.worst

-- how writing a result ends
abbrev pub ReportsResult : {A : Type 0} → FileOutcome → Reported → Reported → Result A WriteFault → Type 0
ReportsResult outcome old new (Ok done) = IsReported outcome old new
ReportsResult outcome old new (Err fault) = IsCut outcome old new

-- how printing the heading ends: it is printed; or the output failed and has a first part of it; or
-- memory ran out
abbrev pub Begins : {A : Type 0} → List ℕ → Account → Account → Result A StreamFault → Type 0
Begins heading old new (Ok done) = Appends old.contents new.contents heading × (new.has_failed ≡ old.has_failed)
Begins heading old new (Err faults.Write) = AppendsPart old.contents new.contents heading × (new.has_failed ≡ true)
Begins heading old new (Err faults.Memory) = new ≡ old
Begins heading old new (Err faults.Read) = ⊥

-- a file is read and has this result, with the reason if it could not be read
pub record Serves (effects : Effects) (request : Request) (old : HostState) (outcome : FileOutcome) (new : HostState) : Type 0 where
  pub bytes : Option (List ℕ)
  pub host : HostState
  pub read : IsRead request old bytes host
  pub plain : FileOutcome
  pub done : effects.does (shown_request request) bytes host plain new
  pub reason : Option Reason
  pub why : SaysWhy request old bytes host reason
  pub is : outcome ≡ explained reason plain

-- a file is processed: its result is written
pub record Processes (effects : Effects) (request : Request) (old new : RunState) : Type 0 where
  pub outcome : FileOutcome
  pub served : Serves effects request old.host outcome new.host
  pub reported : IsReported outcome old.reported new.reported

-- files are processed, one after another
unfoldable pub Steps : Effects → List Request → RunState → RunState → Type 0
Steps effects [] old new = new ≡ old
Steps effects (request ∷ more) old new = (middle : RunState) × Processes effects request old middle × Steps effects more middle new

-- the output failed while the result of a file was written
pub record FailsToReport (effects : Effects) (request : Request) (old new : RunState) : Type 0 where
  pub outcome : FileOutcome
  pub served : Serves effects request old.host outcome new.host
  pub reported : IsCut outcome old.reported new.reported

-- memory ran out while a file with this name and these bytes was processed, or its reason was added
abbrev pub HaltsAt : Effects → List ℕ → Option (List ℕ) → HostState → HostState → Type 0
HaltsAt effects name (Some bytes) old new = effects.halts name (Some bytes) old new
HaltsAt effects name None old new =
    effects.halts name None old new ⊎ ((plain : FileOutcome) × effects.does name None old plain new)

-- memory ran out while a file was processed that was read, or could not be
pub record Halts (effects : Effects) (request : Request) (old new : HostState) : Type 0 where
  pub bytes : Option (List ℕ)
  pub host : HostState
  pub read : IsRead request old bytes host
  pub halted : HaltsAt effects (shown_request request) bytes host new

-- how a file that could not be read ends, if this is its result
abbrev pub EndsUnread : Effects → List ℕ → Option Reason → HostState → HostState → (Verdict → FileOutcome) → Result Verdict StreamFault → Type 0
EndsUnread effects name reason old new outcome (Ok verdict) =
    (plain : FileOutcome) × effects.does name None old plain new × (outcome verdict ≡ explained reason plain)
EndsUnread effects name reason old new outcome (Err faults.Memory) = HaltsAt effects name None old new
EndsUnread effects name reason old new outcome (Err faults.Write) = ⊥
EndsUnread effects name reason old new outcome (Err faults.Read) = ⊥

-- memory ran out while a file was read or processed
abbrev pub Wants : Effects → Request → HostState → HostState → Type 0
Wants effects request old new = Halts effects request old new ⊎ (new ≡ old)

-- how a file that is read and processed ends, if this is its result
abbrev pub EndsServing : Effects → Request → HostState → HostState → (Verdict → FileOutcome) → Result Verdict StreamFault → Type 0
EndsServing effects request old new outcome (Ok verdict) = Serves effects request old (outcome verdict) new
EndsServing effects request old new outcome (Err faults.Memory) = Wants effects request old new
EndsServing effects request old new outcome (Err faults.Write) = ⊥
EndsServing effects request old new outcome (Err faults.Read) = ⊥

-- memory ran out: nothing was written about the file
pub record WantsMemory (effects : Effects) (request : Request) (old new : RunState) : Type 0 where
  pub wants : Wants effects request old.host new.host
  pub reported : new.reported ≡ old.reported

-- a run stops at a file, by a fault
abbrev pub StopsAt : Effects → Request → StreamFault → RunState → RunState → Type 0
StopsAt effects request faults.Write old new = FailsToReport effects request old new
StopsAt effects request faults.Memory old new = WantsMemory effects request old new
StopsAt effects request faults.Read old new = ⊥

-- how processing a file ends
abbrev pub EndsAt : {A : Type 0} → Effects → Request → RunState → RunState → Result A StreamFault → Type 0
EndsAt effects request old new (Ok done) = Processes effects request old new
EndsAt effects request old new (Err fault) = StopsAt effects request fault old new

-- a run stops at one of these files, after those before it were processed
pub record StopsIn (effects : Effects) (all : List Request) (fault : StreamFault) (old new : RunState) : Type 0 where
  pub before : List Request
  pub request : Request
  pub rest : List Request
  pub split : before ++ request ∷ rest ≡ all
  pub middle : RunState
  pub processed : Steps effects before old middle
  pub stopped : StopsAt effects request fault middle new

-- how a run over these files ends: all are processed, or it stops at one
abbrev pub Runs : {A : Type 0} → Effects → List Request → RunState → RunState → Result A StreamFault → Type 0
Runs effects all old new (Ok done) = Steps effects all old new
Runs effects all old new (Err fault) = StopsIn effects all fault old new
