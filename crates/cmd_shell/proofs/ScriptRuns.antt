-- Runs of a first part of a script, as runs of the whole.
use Rattle.std.proofs.Common.{◌≡◌, ℕ, List, ◌∷◌, ◌++◌, true, sym, ap, ◌∙◌, append_assoc}
use Rattle.cmd_shell.specs.Transcript.{RunOptions, RunProgress}
use Rattle.cmd_shell.specs.Runner.{ScriptState, first_progress, RanLines, StoppedAt}
use Rattle.cmd_shell.proofs.Transcripts.{Transcript-closed}

-- the lines after the run's end change nothing
pub RanLines-closed : (options : RunOptions) (old new : ScriptState) (lines more : List (List ℕ)) (after : RunProgress)
    → RanLines options old new lines after → after.closed ≡ true → RanLines options old new (lines ++ more) after
RanLines-closed options old new lines more after ran ended = record {
  out = ran.out;
  reported = Transcript-closed options lines more (first_progress old.world) ran.out after ran.reported ended;
  written = ran.written;
  world = ran.world;
}

-- a run that stopped among lines stopped among more of them
pub StoppedAt-more : (options : RunOptions) (old new : ScriptState) (lines more : List (List ℕ))
    → StoppedAt options old new lines → StoppedAt options old new (lines ++ more)
StoppedAt-more options old new lines more stopped = record {
  before = stopped.before;
  line = stopped.line;
  rest = stopped.rest ++ more;
  split = sym (append_assoc stopped.before (stopped.line ∷ stopped.rest) more) ∙ ap (λ l. l ++ more) stopped.split;
  out = stopped.out;
  middle = stopped.middle;
  reported = stopped.reported;
  open_run = stopped.open_run;
  response = stopped.response;
  after = stopped.after;
  executed = stopped.executed;
  part = stopped.part;
  unwritten = stopped.unwritten;
  parts = stopped.parts;
  written = stopped.written;
  world = stopped.world;
}
