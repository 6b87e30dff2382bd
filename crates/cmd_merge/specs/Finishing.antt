-- How a merge ends after its files were read.
use Rattle.std.specs.Prelude.{◌≡◌, ◌⊎◌, MatchBool, option_map, Option, Some, None, Result, Ok, Err}
use Rattle.d64_image.specs.Disk.{Bytes}
use Rattle.d64_survey.specs.Dump.{dump_bytes}
use Rattle.host_storage.specs.Files.{HostState}
use Rattle.host_storage.specs.Folders.{with_stored_file, Makes, CountsMaking}
use Rattle.host_storage.specs.declared.host.FolderFault.{FolderFault}
use Rattle.program_surveys.specs.FileOutcomes.{FileOutcome}
use Rattle.program_console.specs.Reasons.{IsWriteReason}
use Rattle.program_console.specs.declared.reason.Reason.{Reason}
use Rattle.cmd_merge.specs.Setup.{MergeSetupView}
use Rattle.cmd_merge.specs.Reports.{ReadingsView, are_dumps, made, faulted_outcome, merged_outcome, unwritten_outcome}

-- a file of these bytes was made at a path of the host, at which nothing was; or making it failed,
-- and a fault of the device is counted
abbrev pub IsFileMade : Bytes → Bytes → HostState → Result (Unit {0}) FolderFault → HostState → Type 0
IsFileMade path bytes old result new =
    Makes (with_stored_file path bytes) old.files path result new.files × CountsMaking old.failures new.failures result

-- the result of a merge, by whether the file was made; if not, with the reason, as far as the host
-- can say
abbrev pub ConcludesMaking : MergeSetupView → ReadingsView → Bytes → Result (Unit {0}) FolderFault → HostState → FileOutcome → Type 0
ConcludesMaking setup readings bytes (Ok done) host outcome = outcome ≡ merged_outcome setup readings (Some bytes)
ConcludesMaking setup readings bytes (Err fault) host outcome =
    (reason : Option Reason) × IsWriteReason host.files setup.out reason × (outcome ≡ unwritten_outcome setup readings reason)

-- what is done with the bytes of the dump that is made; None if there is a conflict
abbrev pub WritesMerged : MergeSetupView → ReadingsView → Option Bytes → HostState → FileOutcome → HostState → Type 0
WritesMerged setup readings None old outcome new = (new ≡ old) × (outcome ≡ merged_outcome setup readings None)
WritesMerged setup readings (Some bytes) old outcome new =
    (result : Result (Unit {0}) FolderFault) × IsFileMade setup.out bytes old result new × ConcludesMaking setup readings bytes result new outcome

-- how a merge ends after its files were read: if one of them is no dump or cannot be read, nothing
-- is written
abbrev pub Finishes : MergeSetupView → ReadingsView → HostState → FileOutcome → HostState → Type 0
Finishes setup readings old outcome new =
    MatchBool (are_dumps readings)
    (WritesMerged setup readings (option_map dump_bytes (made setup readings)) old outcome new)
    ((new ≡ old) × (outcome ≡ faulted_outcome readings))

-- what was done if memory ran out: nothing, or the file was made, or making it failed
abbrev pub MayHaveMade : MergeSetupView → Option Bytes → HostState → HostState → Type 0
MayHaveMade setup None old new = new ≡ old
MayHaveMade setup (Some bytes) old new =
    (new ≡ old) ⊎ ((result : Result (Unit {0}) FolderFault) × IsFileMade setup.out bytes old result new)
