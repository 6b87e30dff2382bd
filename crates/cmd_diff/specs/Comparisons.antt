-- How a comparison of two files ends.
use Rattle.std.specs.Prelude.{◌≡◌, ℕ, List, Result, Ok, Err, ◌⊎◌}
use Rattle.host_storage.specs.Files.{HostState}
use Rattle.program_surveys.specs.FileOutcomes.{FileOutcome}
use Rattle.program_surveys.specs.Runs.{IsCut, IsReported, RunState}
use Rattle.program_surveys.specs.JobEnds.{EndedRun}
use Rattle.program_console.specs.Outside.{Outside}
use Rattle.program_console.specs.declared.stream_fault.StreamFault.{StreamFault}
use Rattle.program_console.specs.declared.stream_fault.StreamFault.TheVariants.{Read, Write, Memory}
use Rattle.program_surveys.specs.FileContents.{Contents, IsReadAs}

-- the result for an old file and a new one, by the name of each, and its bytes, or why it cannot be
-- read
abbrev pub PairRule : Type 0
PairRule = List ℕ → Contents → List ℕ → Contents → FileOutcome

-- both files were read, the old one first
pub record AreRead (old_name new_name : List ℕ) (first : HostState) (old new : Contents) (last : HostState) : Type 0 where
  pub middle : HostState
  pub old_read : IsReadAs old_name first old middle
  pub new_read : IsReadAs new_name middle new last

-- both files were read, and the rule's result for them was written
pub record AreCompared (rule : PairRule) (old_name new_name : List ℕ) (first last : RunState) : Type 0 where
  pub old : Contents
  pub new : Contents
  pub read : AreRead old_name new_name first.host old new last.host
  pub reported : IsReported (rule old_name old new_name new) first.reported last.reported

-- both files were read, and the output failed while the result was written
pub record AreCut (rule : PairRule) (old_name new_name : List ℕ) (first last : RunState) : Type 0 where
  pub old : Contents
  pub new : Contents
  pub read : AreRead old_name new_name first.host old new last.host
  pub reported : IsCut (rule old_name old new_name new) first.reported last.reported

-- how far the reading of the files has come: no file is read, or the old one, or both
abbrev pub AreReadSoFar : List ℕ → List ℕ → HostState → HostState → Type 0
AreReadSoFar old_name new_name first last =
    (last ≡ first)
    ⊎ (((old : Contents) × IsReadAs old_name first old last)
    ⊎ ((old : Contents) × (new : Contents) × AreRead old_name new_name first old new last))

-- how a comparison ends: both files are read and the result is written, unless the output failed,
-- or memory ran out and nothing was written
abbrev pub Compares : {A : Type 0} → PairRule → List ℕ → List ℕ → RunState → RunState → Result A StreamFault → Type 0
Compares rule old_name new_name first last (Ok done) = AreCompared rule old_name new_name first last
Compares rule old_name new_name first last (Err Read) = ⊥
Compares rule old_name new_name first last (Err Write) = AreCut rule old_name new_name first last
Compares rule old_name new_name first last (Err Memory) = AreReadSoFar old_name new_name first.host last.host × (last.reported ≡ first.reported)

-- a comparison has ended, which read nothing of the input
abbrev pub EndedComparison : PairRule → List ℕ → List ℕ → Outside → Outside → ℕ → Type 0
EndedComparison rule old_name new_name old new status = EndedRun (Compares rule old_name new_name) old new status
