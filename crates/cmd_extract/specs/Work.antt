-- What is done to unpack an image, call by call of the host, and how the host responds.
use Rattle.std.specs.Prelude.{◌≡◌, ◌⊎◌, ℕ, Bool, true, false, List, Option, Some, None, IfSome, is_ok, OnOk, Result, Ok, Err}
use Rattle.std.specs.FinMap.{contains_key}
use Rattle.std.specs.Str.{is_utf8}
use Rattle.host_storage.specs.Files.{Files, HostState}
use Rattle.host_storage.specs.Folders.{folder_name, with_folder, with_stored_file, with_moved, Looks, Makes, Extends, CountsMaking}
use Rattle.host_storage.specs.declared.host.FolderFault.{FolderFault}
use Rattle.host_storage.specs.declared.host.FolderFault.TheVariants.{Exists, Device}
use Rattle.program_surveys.specs.FileOutcomes.{FileOutcome}
use Rattle.program_console.specs.Reasons.{IsWriteReason}
use Rattle.program_console.specs.declared.reason.Reason.{Reason}
use Rattle.program_surveys.specs.declared.report.Verdict.{Verdict}
use Rattle.program_surveys.specs.declared.report.ReportBuffer.{ReportBuffer}

-- a call of the host, which returns true or false
pub data HostCall : Type 0 where
  -- look whether a path exists
  Look : List ℕ → HostCall
  -- make a folder, which may exist already
  Folder : List ℕ → HostCall
  -- make a new folder
  NewFolder : List ℕ → HostCall
  -- make a new file, with these bytes
  NewFile : List ℕ → List ℕ → HostCall
  -- append these bytes to a file
  MoreOfFile : List ℕ → List ℕ → HostCall
  -- give a folder another path
  Rename : List ℕ → List ℕ → HostCall

-- what is done: nothing more, with this result; or a call comes first, and the rest depends on what
-- it returns; or the host gives the reason why the last call was refused at a path, and the rest
-- depends on that
pub data Work : Type 0 where
  Done : FileOutcome → Work
  Then : HostCall → (Bool → Work) → Work
  Why : List ℕ → (Option Reason → Work) → Work

-- a call that makes something new at a path had this result
abbrev pub IsTried : (Files → Files) → HostState → List ℕ → Result (Unit {0}) FolderFault → HostState → Type 0
IsTried change old path outcome new = Makes change old.files path outcome new.files × CountsMaking old.failures new.failures outcome

-- what has another path then was a folder
abbrev pub WasFolder : HostState → List ℕ → Result (Unit {0}) FolderFault → Type 0
WasFolder old path outcome = OnOk outcome (IfSome old.files (λ all. contains_key all (folder_name path) ≡ true))

-- a folder was made, or existed
abbrev pub is_had : Result (Unit {0}) FolderFault → Bool
is_had (Ok made) = true
is_had (Err Exists) = true
is_had (Err Device) = false

-- what the call for a new file returns, by whether its path is UTF-8: if not, no file is made
abbrev pub SaysFile : Bool → List ℕ → List ℕ → HostState → Bool → HostState → Type 0
SaysFile true path bytes old said new =
    (outcome : Result (Unit {0}) FolderFault) × IsTried (with_stored_file path bytes) old path outcome new × (said ≡ is_ok outcome)
SaysFile false path bytes old said new = (said ≡ false) × (new ≡ old)

-- what the call that appends to such a file returns
abbrev pub SaysMore : Bool → List ℕ → List ℕ → HostState → Bool → HostState → Type 0
SaysMore true path bytes old said new =
    (outcome : Result (Unit {0}) FolderFault)
    × Extends path bytes old.files outcome new.files × CountsMaking old.failures new.failures outcome × (said ≡ is_ok outcome)
SaysMore false path bytes old said new = (said ≡ false) × (new ≡ old)

-- what a call may return, and the state of the host then
abbrev pub CallReturns : HostCall → HostState → Bool → HostState → Type 0
CallReturns (Look path) old said new = Looks old.files path said × (new ≡ old)
CallReturns (Folder path) old said new =
    (outcome : Result (Unit {0}) FolderFault) × IsTried (with_folder path) old path outcome new × (said ≡ is_had outcome)
CallReturns (NewFolder path) old said new =
    (outcome : Result (Unit {0}) FolderFault) × IsTried (with_folder path) old path outcome new × (said ≡ is_ok outcome)
CallReturns (NewFile path bytes) old said new = SaysFile (is_utf8 path) path bytes old said new
CallReturns (MoreOfFile path bytes) old said new = SaysMore (is_utf8 path) path bytes old said new
CallReturns (Rename from to) old said new =
    (outcome : Result (Unit {0}) FolderFault) × IsTried (with_moved from to) old to outcome new × WasFolder old from outcome × (said ≡ is_ok outcome)

-- why a call was refused at a path, by whether that is UTF-8: if not, no host says it
abbrev pub IsReasonAt : Bool → Option Files → List ℕ → Option Reason → Type 0
IsReasonAt true files path reason = IsWriteReason files path reason
IsReasonAt false files path reason = reason ≡ None

-- work is done, from one state of the host to another, with a result, or None if memory ran out:
-- that may happen before each call, and before the result
unfoldable pub DoesWork : Work → HostState → Option FileOutcome → HostState → Type 0
DoesWork (Done outcome) old given new = (new ≡ old) × ((given ≡ Some outcome) ⊎ (given ≡ None))
DoesWork (Then call next) old given new =
    ((said : Bool) × (middle : HostState) × CallReturns call old said middle × DoesWork (next said) middle given new)
    ⊎ ((new ≡ old) × (given ≡ None))
DoesWork (Why path next) old given new =
    ((reason : Option Reason) × IsReasonAt (is_utf8 path) old.files path reason × DoesWork (next reason) old given new)
    ⊎ ((new ≡ old) × (given ≡ None))

-- the beginning of one piece of work leads to another piece: whatever that one does from here, the
-- first one may do
abbrev pub LeadsTo : Work → HostState → Work → HostState → Type 0
LeadsTo work old rest now = (given : Option FileOutcome) (new : HostState) → DoesWork rest now given new → DoesWork work old given new

-- how a part of the work ends: with the rest to be done, or as memory ran out
abbrev pub Comes : {A E : Type 0} → Result A E → Work → HostState → Work → HostState → Type 0
Comes (Ok done) work old rest now = LeadsTo work old rest now
Comes (Err fault) work old rest now = DoesWork work old None now

-- the result in the buffer, with this verdict
abbrev pub outcome_in : ReportBuffer → Verdict → FileOutcome
outcome_in buffer verdict = record { printed = buffer.printed.items; complaint = buffer.complaint.items; verdict = verdict }

-- how work ends: with the result in the buffer, or as memory ran out
abbrev pub EndsWork : {E : Type 0} → Result Verdict E → ReportBuffer → Work → HostState → HostState → Type 0
EndsWork (Ok verdict) buffer work old new = DoesWork work old (Some (outcome_in buffer verdict)) new
EndsWork (Err fault) buffer work old new = DoesWork work old None new
