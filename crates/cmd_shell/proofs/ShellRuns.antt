-- Runs of the job of the shell.
use Rattle.std.proofs.Common.{◌≡◌, ℕ, List, [], ◌++◌, take, Option, Some, Result, Ok, Err, true, inl, inr, refl, sym, ap, subst}
use Rattle.std.specs.Io.KnownBytes.{Keeps}
use Rattle.std.proofs.KnownBytes.{Appends-kept}
use Rattle.script_text.specs.RawLines.{lines_of, ended_lines}
use Rattle.host_storage.specs.Input.{Reading, input_limit}
use Rattle.host_storage.specs.Output.{Account}
use Rattle.host_storage.specs.Files.{HostState}
use Rattle.d64_history.specs.History.{History}
use Rattle.cmd_shell.specs.Beginnings.{Beginning, Blank, ImageFile, SessionFile, Source, Input, Given}
use Rattle.cmd_shell.specs.ShellRuns.{GivesNoImage, GivesNoSession, HasNoHistory, HasNoText, IsDue, IsFirstHistory, IsReadDue, RanFrom, RanShell, IsRunReportedAs, StoppedBy}
use Rattle.program_console.specs.Outside.{Outside, outside_of}
use Rattle.program_console.specs.Faults.{fault_of_file}
use Rattle.cmd_shell.specs.ShellFaults.{fault_of_resume, fault_of_run}
use Rattle.program_console.specs.declared.program_fault.ProgramFault.{ProgramFault}
use Rattle.program_console.specs.declared.program_fault.ProgramFault.TheVariants as faults
use Rattle.host_storage.specs.declared.host.HostFault.{HostFault}
use Rattle.host_storage.specs.declared.host.HostFault.TheVariants as files
use Rattle.d64_history.specs.declared.resume_fault.ResumeFault.{ResumeFault}
use Rattle.d64_history.specs.declared.resume_fault.ResumeFault.TheVariants as resumes
use Rattle.cmd_shell.specs.Runner.{ScriptState, RanLines, StoppedAt, Ran}
use Rattle.cmd_shell.specs.Transcript.{RunOptions, RunProgress}
use Rattle.cmd_shell.specs.declared.runner.Outcome.{Outcome}
use Rattle.cmd_shell.specs.declared.runner.ShellFault.{ShellFault}
use Rattle.cmd_shell.specs.declared.runner.ShellFault.TheVariants.{Read, Write, Memory}

-- lines have run also after the output was flushed
RanLines-flushed : (options : RunOptions) (old new : ScriptState) (lines : List (List ℕ)) (after : RunProgress) (flushed : Option (List ℕ))
    → RanLines options old new lines after → Keeps new.writer flushed → RanLines options old (record new { writer = flushed }) lines after
RanLines-flushed options old new lines after flushed ran kept = record {
  out = ran.out;
  reported = ran.reported;
  written = Appends-kept old.writer new.writer flushed ran.out ran.written kept;
  world = ran.world;
}

-- so have those before a write that failed
StoppedAt-flushed : (options : RunOptions) (old new : ScriptState) (lines : List (List ℕ)) (flushed : Option (List ℕ))
    → StoppedAt options old new lines → Keeps new.writer flushed → StoppedAt options old (record new { writer = flushed }) lines
StoppedAt-flushed options old new lines flushed stopped kept = record {
  before = stopped.before;
  line = stopped.line;
  rest = stopped.rest;
  split = stopped.split;
  out = stopped.out;
  middle = stopped.middle;
  reported = stopped.reported;
  open_run = stopped.open_run;
  response = stopped.response;
  after = stopped.after;
  executed = stopped.executed;
  part = stopped.part;
  unwritten = stopped.unwritten;
  parts = stopped.parts;
  written = Appends-kept old.writer new.writer flushed (stopped.out ++ stopped.part) stopped.written kept;
  world = stopped.world;
}

-- a script has run also after its output was flushed, however it ended
pub Ran-flushed : (options : RunOptions) (reader left : Option (List ℕ)) (old new : ScriptState) (flushed : Option (List ℕ)) (ended : Result Outcome ShellFault)
    → Ran options reader left old new ended → Keeps new.writer flushed → Ran options reader left old (record new { writer = flushed }) ended
Ran-flushed options reader left old new flushed (Ok outcome) ran kept = record {
  script = ran.script;
  all = ran.all;
  after = ran.after;
  ran = RanLines-flushed options old new (lines_of ran.script) ran.after flushed ran.ran kept;
  accepted = ran.accepted;
  refused = ran.refused;
}
Ran-flushed options reader left old new flushed (Err Read) ran kept = record {
  consumed = ran.consumed;
  lost = ran.lost;
  after = ran.after;
  ran = RanLines-flushed options old new (ended_lines (take input_limit ran.consumed)) ran.after flushed ran.ran kept;
  open_run = ran.open_run;
}
Ran-flushed options reader left old new flushed (Err Write) ran kept = record {
  script = ran.script;
  all = ran.all;
  stopped = StoppedAt-flushed options old new (lines_of ran.script) flushed ran.stopped kept;
}
Ran-flushed options reader left old new flushed (Err (Memory error)) ran kept = ran

-- a script of some source has run also after its output was flushed
RanFrom-flushed : (source : Source) (options : RunOptions) (reader left : Option (List ℕ)) (old new : ScriptState) (flushed : Option (List ℕ)) (ended : Result Outcome ShellFault)
    → RanFrom source options reader left old new ended → Keeps new.writer flushed → RanFrom source options reader left old (record new { writer = flushed }) ended
RanFrom-flushed Input options reader left old new flushed ended ran kept = Ran-flushed options reader left old new flushed ended ran kept
RanFrom-flushed (Given text) options reader left old new flushed ended ran kept =
    (ran.0, Ran-flushed options (Some text) (Some []) old new flushed ended ran.1 kept)

-- a script has run from a beginning, and then its output was flushed
pub RanShell-flushed : (old new : Outside) (ended : Result Outcome ShellFault)
    (beginning : Beginning) (source from : Source) (options at : RunOptions) (host : HostState) (first last : History) (writer : Option (List ℕ))
    → IsFirstHistory old.host beginning first host → from ≡ source → at ≡ options
    → RanFrom from at old.reader new.reader
    (record { writer = old.output.contents; world = record { host = host; history = first } })
    (record { writer = writer; world = record { host = new.host; history = last } }) ended
    → Keeps writer new.output.contents → RanShell beginning source options old new ended
RanShell-flushed old new ended beginning source from options at host first last writer begins from_source at_options ran flushed = record {
  first = first;
  host = host;
  begins = begins;
  last = last;
  ran = RanFrom-flushed source options old.reader new.reader
      (record { writer = old.output.contents; world = record { host = host; history = first } })
      (record { writer = writer; world = record { host = new.host; history = last } }) new.output.contents ended
      (rw (at_options, from_source) at ran) flushed;
}

-- however a run ended, a flush that fails is reported as a write fault
pub reported_of-write : (ended : Result Outcome ShellFault) → IsRunReportedAs ended faults.Write
reported_of-write (Ok outcome) = refl
reported_of-write (Err fault) = inr refl

-- a fault is due if the one that it is reported as is due
due_by : (reported other : ProgramFault) (source : Source) (new : Outside) → reported ≡ other → IsDue other source new → IsDue reported source new
due_by reported other source new is due = subst (λ (f : ProgramFault). IsDue f source new) (sym is) due

-- no fault of a file is one of reading or writing
file_due : (unreadable : ProgramFault) (fault : HostFault) (source : Source) (new : Outside) → IsDue unreadable source new → IsDue (fault_of_file unreadable fault) source new
file_due unreadable (files.Memory error) source new due = tt
file_due unreadable files.Missing source new due = due
file_due unreadable files.Device source new due = due
file_due unreadable files.TooLong source new due = due

resume_due : (fault : ResumeFault) (source : Source) (new : Outside) → IsDue (fault_of_resume fault) source new
resume_due (resumes.Memory error) source new = tt
resume_due resumes.NotSession source new = tt
resume_due resumes.Truncated source new = tt
resume_due resumes.Trailing source new = tt
resume_due resumes.BadCursor source new = tt
resume_due resumes.BadRecord source new = tt

no_image_due : (fetched : Result (List ℕ) HostFault) (reported : ProgramFault) (source : Source) (new : Outside) → GivesNoImage fetched reported → IsDue reported source new
no_image_due (Err fault) reported source new is = due_by reported _ source new is (file_due faults.UnreadableImage fault source new tt)
no_image_due (Ok bytes) reported source new (inl length) = due_by reported _ source new length.0 tt
no_image_due (Ok bytes) reported source new (inr is) = due_by reported _ source new is tt

no_session_due : (fetched : Result (List ℕ) HostFault) (reported : ProgramFault) (source : Source) (new : Outside) → GivesNoSession fetched reported → IsDue reported source new
no_session_due (Err fault) reported source new is = due_by reported _ source new is (file_due faults.UnreadableSession fault source new tt)
no_session_due (Ok bytes) reported source new (inl first) = due_by reported _ source new first.2 (resume_due first.0 source new)
no_session_due (Ok bytes) reported source new (inr is) = due_by reported _ source new is tt

-- no fault is due of a session that cannot be begun
pub no_history_due : (reported : ProgramFault) (old last : HostState) (beginning : Beginning) (source : Source) (new : Outside) → HasNoHistory reported old beginning last → IsDue reported source new
no_history_due reported old last (Blank disk) source new none = due_by reported _ source new none.0 tt
no_history_due reported old last (ImageFile name) source new none = no_image_due none.0 reported source new none.2
no_history_due reported old last (SessionFile name) source new none = no_session_due none.0 reported source new none.2

-- a fault is due if the run's is due
run_due : (fault : ShellFault) (source : Source) (new : Outside) → (fault ≡ Read → IsReadDue source new.reading) → (fault ≡ Write → new.output.has_failed ≡ true)
    → IsDue (fault_of_run fault) source new
run_due Read source new reads writes = reads refl
run_due Write source new reads writes = writes refl
run_due (Memory error) source new reads writes = tt

pub reported_run_due : (reported : ProgramFault) (fault : ShellFault) (source : Source) (new : Outside) → reported ≡ fault_of_run fault
    → (fault ≡ Read → IsReadDue source new.reading) → (fault ≡ Write → new.output.has_failed ≡ true) → IsDue reported source new
reported_run_due reported fault source new is reads writes = due_by reported _ source new is (run_due fault source new reads writes)

-- what stopped a script has stopped it also after the fault was reported
no_text_reported : (fault : ProgramFault) (source : Source) (old : Outside) (reader : Option (List ℕ)) (reading : Reading) (output before after : Account) (host : HostState)
    → HasNoText fault source old (outside_of reader reading output before host) → HasNoText fault source old (outside_of reader reading output after host)
no_text_reported fault Input old reader reading output before after host none = none
no_text_reported fault (Given text) old reader reading output before after host none = (none.0, ap (λ (o : Outside). record o { error = after }) none.1)

ran_reported : (beginning : Beginning) (source : Source) (options : RunOptions) (old : Outside) (reader : Option (List ℕ)) (reading : Reading) (output before after : Account) (host : HostState) (ended : Result Outcome ShellFault)
    → RanShell beginning source options old (outside_of reader reading output before host) ended → RanShell beginning source options old (outside_of reader reading output after host) ended
ran_reported beginning source options old reader reading output before after host ended ran = record {
  first = ran.first;
  host = ran.host;
  begins = ran.begins;
  last = ran.last;
  ran = ran.ran;
}

pub stopped_reported : (fault : ProgramFault) (beginning : Beginning) (source : Source) (options : RunOptions) (old : Outside) (reader : Option (List ℕ)) (reading : Reading) (output before after : Account) (host : HostState)
    → StoppedBy fault beginning source options old (outside_of reader reading output before host) → StoppedBy fault beginning source options old (outside_of reader reading output after host)
stopped_reported fault beginning source options old reader reading output before after host (inl none) = inl (no_text_reported fault source old reader reading output before after host none)
stopped_reported fault beginning source options old reader reading output before after host (inr (inl none)) = inr (inl none)
stopped_reported fault beginning source options old reader reading output before after host (inr (inr (ended, ran, is))) =
    inr (inr (ended, ran_reported beginning source options old reader reading output before after host ended ran, is))

-- and it is due also then
pub due_reported : (fault : ProgramFault) (source : Source) (reader : Option (List ℕ)) (reading : Reading) (output before after : Account) (host : HostState)
    → IsDue fault source (outside_of reader reading output before host) → IsDue fault source (outside_of reader reading output after host)
due_reported faults.Read source reader reading output before after host due = due
due_reported faults.Write source reader reading output before after host due = due
due_reported faults.Memory source reader reading output before after host due = tt
due_reported faults.UnreadableArgument source reader reading output before after host due = tt
due_reported (faults.WrongLength length) source reader reading output before after host due = tt
due_reported faults.UnreadableImage source reader reading output before after host due = tt
due_reported faults.UnreadableSession source reader reading output before after host due = tt
due_reported (faults.NoSession number) source reader reading output before after host due = tt
