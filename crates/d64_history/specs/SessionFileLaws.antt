-- What follows from the definitions of session files and of their faults.
use Rattle.std.specs.Prelude.{◌≡◌, None, Result, Ok, Err, IfOk}
use Rattle.d64_image.specs.Disk.{Bytes, AreBytes}
use Rattle.d64_history.specs.History.{History}
use Rattle.d64_history.specs.SessionFile.{file_of, IsSession}
use Rattle.d64_history.specs.ResumeFault.{first_resume_fault, resume_fault_number, resume_refused_by}
use Rattle.d64_history.specs.declared.resume_fault.ResumeFault.{ResumeFault}

-- bytes are the file of at most one history
abbrev pub FilesDecide : Type 0
FilesDecide = (history other : History) → IsSession history → IsSession other → file_of history ≡ file_of other → history ≡ other

-- the file of a history has no fault
abbrev pub FilesAreFaultless : Type 0
FilesAreFaultless = (history : History) → IsSession history → first_resume_fault (file_of history) ≡ None

-- bytes without a fault are the file of a history
abbrev pub FaultlessAreFiles : Type 0
FaultlessAreFiles =
    (bytes : Bytes) → AreBytes bytes → first_resume_fault bytes ≡ None → (history : History) × IsSession history × (file_of history ≡ bytes)

-- what `resume` can return for some bytes
pub record IsOutcome (bytes : Bytes) (outcome : Result History ResumeFault) : Type 0 where
  pub refused : resume_refused_by outcome (first_resume_fault bytes) ≡ first_resume_fault bytes
  pub file : IfOk outcome (λ session. file_of session ≡ bytes)
  pub session : IfOk outcome IsSession

-- the result is that history, or that memory is out
abbrev pub IsOrMemory : History → Result History ResumeFault → Type 0
IsOrMemory history (Ok session) = session ≡ history
IsOrMemory history (Err fault) = resume_fault_number fault ≡ 6

-- what was kept is resumed with the same history and cursor
abbrev pub KeptIsResumed : Type 0
KeptIsResumed = (history : History) (outcome : Result History ResumeFault) → IsSession history → IsOutcome (file_of history) outcome → IsOrMemory history outcome
