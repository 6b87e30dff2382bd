-- How a merge of files ends.
use Rattle.std.specs.Prelude.{◌≡◌, ◌⊎◌, ℕ, Bool, List, [], ◌∷◌, MatchBool, option_map, Result, Ok, Err}
use Rattle.d64_survey.specs.Dump.{dump_bytes}
use Rattle.host_storage.specs.Files.{HostState}
use Rattle.host_storage.specs.Folders.{Looks}
use Rattle.program_surveys.specs.FileOutcomes.{FileOutcome}
use Rattle.program_surveys.specs.Runs.{IsCut, IsReported, RunState}
use Rattle.program_arguments.specs.declared.jobs.DiffForm.{DiffForm}
use Rattle.cmd_merge.specs.Setup.{MergeSetupView}
use Rattle.cmd_merge.specs.Reports.{ReadingsView, no_readings, with_read_file, made, file_present_outcome}
use Rattle.cmd_merge.specs.Finishing.{Finishes, MayHaveMade}
use Rattle.program_surveys.specs.JobEnds.{EndedRun}
use Rattle.program_console.specs.declared.stream_fault.StreamFault.{StreamFault}
use Rattle.program_console.specs.declared.stream_fault.StreamFault.TheVariants.{Read, Write, Memory}
use Rattle.program_console.specs.Outside.{Outside}
use Rattle.program_surveys.specs.FileContents.{Contents, IsReadAs}

-- the files of these names were read, one after another, each added to what was read before
unfoldable pub ReadsFiles : DiffForm → List (List ℕ) → HostState → ReadingsView → HostState → ReadingsView → Type 0
ReadsFiles form [] old begun new read = (new ≡ old) × (read ≡ begun)
ReadsFiles form (name ∷ names) old begun new read =
    (contents : Contents) × (middle : HostState) × IsReadAs name old contents middle × ReadsFiles form names middle (with_read_file form name contents begun) new read

-- all files were read, and the merge ended with this result
pub record MergesRead (setup : MergeSetupView) (old : HostState) (outcome : FileOutcome) (new : HostState) : Type 0 where
  pub middle : HostState
  pub readings : ReadingsView
  pub read : ReadsFiles setup.form setup.names old no_readings middle readings
  pub finished : Finishes setup readings middle outcome new

-- the file that is to be made was looked for: it was there, and nothing else was done; or it was
-- not there, and the files were merged
abbrev pub ConcludesMerge : MergeSetupView → HostState → FileOutcome → HostState → Type 0
ConcludesMerge setup old outcome new =
    (there : Bool) × Looks old.files setup.out there × MatchBool there ((new ≡ old) × (outcome ≡ file_present_outcome setup)) (MergesRead setup old outcome new)

-- how far a merge came if memory ran out: no file was changed; or all files were read, and the file
-- of their merged dump may have been made, whole
abbrev pub CameSoFar : MergeSetupView → HostState → HostState → Type 0
CameSoFar setup old new =
    (new.files ≡ old.files)
    ⊎ ((middle : HostState) × (readings : ReadingsView) × (middle.files ≡ old.files)
    × ReadsFiles setup.form setup.names old no_readings middle readings × MayHaveMade setup (option_map dump_bytes (made setup readings)) middle new)

-- how a merge ends: its result was written, or the output failed while it was written, or memory
-- ran out and nothing was written
abbrev pub Merges : {A : Type 0} → MergeSetupView → RunState → RunState → Result A StreamFault → Type 0
Merges setup first last (Ok done) = (outcome : FileOutcome) × ConcludesMerge setup first.host outcome last.host × IsReported outcome first.reported last.reported
Merges setup first last (Err Read) = ⊥
Merges setup first last (Err Write) = (outcome : FileOutcome) × ConcludesMerge setup first.host outcome last.host × IsCut outcome first.reported last.reported
Merges setup first last (Err Memory) = CameSoFar setup first.host last.host × (last.reported ≡ first.reported)

-- a merge has ended, which read nothing of the input
abbrev pub EndedMerge : MergeSetupView → Outside → Outside → ℕ → Type 0
EndedMerge setup old new status = EndedRun (Merges setup) old new status
