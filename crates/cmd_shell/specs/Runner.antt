-- The effect of running a script, however it ends.
use Rattle.std.specs.Prelude.{◌≡◌, ℕ, List, ◌∷◌, ◌++◌, take, Bool, true, false, Option, IfSome, option_copied, Result, Ok, Err}
use Rattle.std.specs.Io.KnownBytes.{Appends, Consumes}
use Rattle.host_storage.specs.Input.{Reading, IsUnreadable, input_limit}
use Rattle.script_text.specs.RawLines.{lines_of, ended_lines}
use Rattle.script_lines.specs.Act.{World}
use Rattle.cmd_shell.specs.Transcript.{RunOptions, RunProgress, Line, Transcript}
use Rattle.cmd_shell.specs.declared.runner.Outcome.{Outcome}
use Rattle.cmd_shell.specs.declared.runner.ShellFault.{ShellFault}
use Rattle.cmd_shell.specs.declared.runner.ShellFault.TheVariants.{Read, Write, Memory}
use Rattle.cmd_shell.specs.declared.runner.Tally.{Tally}
use Rattle.cmd_shell.specs.declared.run_options.RunOptions.{RunOptions as CodeOptions}

-- how the code's script is run
abbrev pub options_of : CodeOptions → RunOptions
options_of options = record { home = option_copied options.home; refusals = options.refusals }

-- the writer's bytes, if known, and the world of a run
pub record ScriptState : Type 0 where
  pub writer : Option (List ℕ)
  pub world : World

abbrev pub script_state : Option (List ℕ) → World → ScriptState
script_state writer world = record { writer = writer; world = world }

-- the progress of a run that begins
abbrev pub first_progress : World → RunProgress
first_progress world = record { world = world; closed = false; accepted = 0; refused = 0 }

-- lines have run: what they print is written, and the world is that after them
pub record RanLines (options : RunOptions) (old new : ScriptState) (lines : List (List ℕ)) (after : RunProgress) : Type 0 where
  pub out : List ℕ
  pub reported : Transcript options lines (first_progress old.world) out after
  pub written : Appends old.writer new.writer out
  pub world : new.world ≡ after.world

-- a tally has the counts of a run, and whether it was closed
abbrev pub Counts : Tally → RunProgress → Type 0
Counts tally after =
    (tally.outcome.accepted ≡ after.accepted) × (tally.outcome.refused ≡ after.refused) × (tally.closed ≡ after.closed)

-- a write failed at a line: what lines before it print is written, and a part of its own; the world
-- is that after it
pub record StoppedAt (options : RunOptions) (old new : ScriptState) (lines : List (List ℕ)) : Type 0 where
  pub before : List (List ℕ)
  pub line : List ℕ
  pub rest : List (List ℕ)
  pub split : before ++ line ∷ rest ≡ lines
  pub out : List ℕ
  pub middle : RunProgress
  pub reported : Transcript options before (first_progress old.world) out middle
  pub open_run : middle.closed ≡ false
  pub response : List ℕ
  pub after : RunProgress
  pub executed : Line options line middle response after
  pub part : List ℕ
  pub unwritten : List ℕ
  pub parts : part ++ unwritten ≡ response
  pub written : Appends old.writer new.writer (out ++ part)
  pub world : new.world ≡ after.world

-- the whole script has run, and its lines are counted
pub record RanWhole (options : RunOptions) (reader : Option (List ℕ)) (old new : ScriptState) (outcome : Outcome) : Type 0 where
  pub script : List ℕ
  pub all : IfSome reader (λ bytes. script ≡ bytes)
  pub after : RunProgress
  pub ran : RanLines options old new (lines_of script) after
  pub accepted : outcome.accepted ≡ after.accepted
  pub refused : outcome.refused ≡ after.refused

-- reading failed: the lines that were ended before have run, and didn't end the run
pub record RanRead (options : RunOptions) (reader left : Option (List ℕ)) (old new : ScriptState) : Type 0 where
  pub consumed : List ℕ
  pub lost : Consumes reader left consumed
  pub after : RunProgress
  pub ran : RanLines options old new (ended_lines (take input_limit consumed)) after
  pub open_run : after.closed ≡ false

-- writing failed at a line of the script
pub record RanUpTo (options : RunOptions) (reader : Option (List ℕ)) (old new : ScriptState) : Type 0 where
  pub script : List ℕ
  pub all : IfSome reader (λ bytes. script ≡ bytes)
  pub stopped : StoppedAt options old new (lines_of script)

-- a run by how it ends; only commands allocate, so `Memory` never comes
abbrev pub Ran : RunOptions → Option (List ℕ) → Option (List ℕ) → ScriptState → ScriptState → Result Outcome ShellFault → Type 0
Ran options reader left old new (Ok outcome) = RanWhole options reader old new outcome
Ran options reader left old new (Err Read) = RanRead options reader left old new
Ran options reader left old new (Err Write) = RanUpTo options reader old new
Ran options reader left old new (Err (Memory error)) = ⊥

-- how the streams of a run ended: without a failure if the run came to its end; if it is a fault of
-- reading, a read failed or a limit was passed, and no write or flush failed; if it is a fault of
-- writing, a write or a flush failed, and no read
abbrev pub EndsStreams : Result Outcome ShellFault → Reading → Bool → Type 0
EndsStreams (Ok outcome) input output_failed = (input.has_failed ≡ false) × (output_failed ≡ false)
EndsStreams (Err Read) input output_failed = IsUnreadable input × (output_failed ≡ false)
EndsStreams (Err Write) input output_failed = (input.has_failed ≡ false) × (output_failed ≡ true)
EndsStreams (Err (Memory error)) input output_failed = ⊥
