-- How the job of the shell ends.
use Rattle.std.specs.Prelude.{◌≡◌, ℕ, ◌<◌, ◌==◌, true, false, if◌then◌else◌, List, [], length, Option, Some, Result, Ok, Err, ◌⊎◌, ⊤}
use Rattle.std.specs.Io.KnownBytes.{Keeps}
use Rattle.host_storage.specs.Input.{Reading, IsUnreadable, input_limit}
use Rattle.host_storage.specs.Files.{HostState}
use Rattle.host_storage.specs.declared.host.HostFault.{HostFault}
use Rattle.d64_image.specs.Image.{IsImage, bytes_of, is_image_length}
use Rattle.script_lines.specs.Act.{FetchesFile}
use Rattle.d64_history.specs.History.{History, new_history}
use Rattle.d64_history.specs.ResumeFault.{first_resume_fault}
use Rattle.d64_history.specs.SessionFile.{IsSession, file_of}
use Rattle.d64_history.specs.declared.resume_fault.ResumeFault.{ResumeFault}
use Rattle.cmd_shell.specs.Runner.{Ran, ScriptState}
use Rattle.cmd_shell.specs.Transcript.{RunOptions}
use Rattle.cmd_shell.specs.declared.runner.Outcome.{Outcome}
use Rattle.cmd_shell.specs.declared.runner.ShellFault.{ShellFault}
use Rattle.program_console.specs.declared.program_fault.ProgramFault.{ProgramFault}
use Rattle.program_console.specs.declared.program_fault.ProgramFault.TheVariants.{WrongLength, UnreadableImage, UnreadableSession, Read, Write, Memory}
use Rattle.program_console.specs.Outside.{Outside}
use Rattle.program_console.specs.Faults.{fault_of_file, Reports}
use Rattle.cmd_shell.specs.ShellFaults.{fault_of_resume, fault_of_run}
use Rattle.cmd_shell.specs.Beginnings.{Beginning, Blank, ImageFile, SessionFile, Source, Input, Given, blank_image}

-- the most bytes of a session file that are read
abbrev pub session_limit : ℕ
session_limit = 67108864

-- the history that a script begins with, and the state of the host then
abbrev pub IsFirstHistory : HostState → Beginning → History → HostState → Type 0
IsFirstHistory old (Blank disk) history new = (history ≡ new_history (blank_image disk)) × (new ≡ old)
IsFirstHistory old (ImageFile name) history new =
    (image : List (List ℕ)) × IsImage image × FetchesFile old name input_limit (Ok (bytes_of image)) new × (history ≡ new_history image)
IsFirstHistory old (SessionFile name) history new = IsSession history × FetchesFile old name session_limit (Ok (file_of history)) new

-- a script has run that comes from the input, or from the arguments: then nothing of the input was
-- read, and the text is all that there was to read
abbrev pub RanFrom : Source → RunOptions → Option (List ℕ) → Option (List ℕ) → ScriptState → ScriptState → Result Outcome ShellFault → Type 0
RanFrom Input options reader left old new ended = Ran options reader left old new ended
RanFrom (Given text) options reader left old new ended = (left ≡ reader) × Ran options (Some text) (Some []) old new ended

-- the script has run from this beginning, and ended with this result
pub record RanShell (beginning : Beginning) (source : Source) (options : RunOptions) (old new : Outside) (ended : Result Outcome ShellFault) : Type 0 where
  pub first : History
  pub host : HostState
  pub begins : IsFirstHistory old.host beginning first host
  pub last : History
  pub ran : RanFrom source options old.reader new.reader
      (record { writer = old.output.contents; world = record { host = host; history = first } })
      (record { writer = new.output.contents; world = record { host = new.host; history = last } }) ended

-- nothing of the input was read, and nothing was written
abbrev pub HasNotBegun : Outside → Outside → Type 0
HasNotBegun old new = (new.reader ≡ old.reader) × Keeps old.output.contents new.output.contents

-- the exit status of a script that ran to its end: 0 if all of its lines were accepted, and
-- otherwise 1
abbrev pub outcome_status : Outcome → ℕ
outcome_status outcome = if outcome.refused == 0 then 0 else 1

-- why a host file that was fetched with this result gives no image: the fetch failed, the length is
-- wrong, or memory ran out
abbrev pub GivesNoImage : Result (List ℕ) HostFault → ProgramFault → Type 0
GivesNoImage (Err fault) reported = reported ≡ fault_of_file UnreadableImage fault
GivesNoImage (Ok bytes) reported = ((reported ≡ WrongLength (length bytes)) × (is_image_length (length bytes) ≡ false)) ⊎ (reported ≡ Memory)

-- why a host file that was fetched with this result gives no session: the fetch failed, its bytes
-- are not a session, of which the first fault is reported, or memory ran out
abbrev pub GivesNoSession : Result (List ℕ) HostFault → ProgramFault → Type 0
GivesNoSession (Err fault) reported = reported ≡ fault_of_file UnreadableSession fault
GivesNoSession (Ok bytes) reported = ((fault : ResumeFault) × (first_resume_fault bytes ≡ Some fault) × (reported ≡ fault_of_resume fault)) ⊎ (reported ≡ Memory)

-- why there is no session to begin with, and the state of the host then
abbrev pub HasNoHistory : ProgramFault → HostState → Beginning → HostState → Type 0
HasNoHistory reported old (Blank disk) new = (reported ≡ Memory) × (new ≡ old)
HasNoHistory reported old (ImageFile name) new = (fetched : Result (List ℕ) HostFault) × FetchesFile old name input_limit fetched new × GivesNoImage fetched reported
HasNoHistory reported old (SessionFile name) new = (fetched : Result (List ℕ) HostFault) × FetchesFile old name session_limit fetched new × GivesNoSession fetched reported

-- no line has run, since there is no session
abbrev pub HasNotBegunFor : ProgramFault → Beginning → Outside → Outside → Type 0
HasNotBegunFor fault beginning old new = HasNoHistory fault old.host beginning new.host × HasNotBegun old new

-- no line has run, since memory ran out for the text that the arguments give: nothing outside has
-- changed, except that the fault may be reported
abbrev pub HasNoText : ProgramFault → Source → Outside → Outside → Type 0
HasNoText fault Input old new = ⊥
HasNoText fault (Given text) old new = (fault ≡ Memory) × (new ≡ record old { error = new.error })

-- why a run that ended with this result is reported as this fault: the fault stopped it, or the
-- output takes no more bytes
abbrev pub IsRunReportedAs : Result Outcome ShellFault → ProgramFault → Type 0
IsRunReportedAs (Ok outcome) reported = reported ≡ Write
IsRunReportedAs (Err fault) reported = (reported ≡ fault_of_run fault) ⊎ (reported ≡ Write)

-- what a reported fault says of the run: no line has run, since there is no text or no session; or
-- the script has run until this fault
abbrev pub StoppedBy : ProgramFault → Beginning → Source → RunOptions → Outside → Outside → Type 0
StoppedBy fault beginning source options old new =
    HasNoText fault source old new ⊎ (HasNotBegunFor fault beginning old new
    ⊎ ((ended : Result Outcome ShellFault) × RanShell beginning source options old new ended × IsRunReportedAs ended fault))

-- a fault of reading is due: the input cannot be read to its end, or the arguments give more than a
-- script may have
abbrev pub IsReadDue : Source → Reading → Type 0
IsReadDue Input reading = IsUnreadable reading
IsReadDue (Given text) reading = input_limit < length text

-- a fault is due: of reading, as above; and of writing, if a write or a flush has failed
abbrev pub IsDue : ProgramFault → Source → Outside → Type 0
IsDue Read source new = IsReadDue source new.reading
IsDue Write source new = new.output.has_failed ≡ true
IsDue other source new = ⊤

-- how the shell ended: the script ran to its end, and no fault is reported; or a fault stopped it
abbrev pub EndedShell : Beginning → Source → RunOptions → Outside → Outside → ℕ → Type 0
EndedShell beginning source options old new status =
    ((outcome : Outcome) × RanShell beginning source options old new (Ok outcome) × (status ≡ outcome_status outcome) × (new.error ≡ old.error))
    ⊎ ((fault : ProgramFault) × StoppedBy fault beginning source options old new × IsDue fault source new × Reports fault old.error new.error status)
