-- How far a run has come in a script that it reads part by part.
use Rattle.std.specs.Prelude.{◌≡◌, ℕ, ◌+◌, ◌<◌, true, false, List, [], ◌∷◌, ◌++◌, map, Option, MatchResult, Result}
use Rattle.std.specs.Io.KnownBytes.{Appends}
use Rattle.host_storage.specs.Files.{HostState}
use Rattle.script_text.specs.HeldLine.{HoldsLine}
use Rattle.host_storage.specs.Output.{AppendsPart}
use Rattle.script_lines.specs.Act.{World, world_of}
use Rattle.cmd_shell.specs.Transcript.{RunOptions, RunProgress, Line}
use Rattle.cmd_shell.specs.Runner.{ScriptState, RanLines, StoppedAt, options_of, script_state}
use Rattle.cmd_shell.specs.declared.runner.LineRunner.{LineRunner}
use Rattle.cmd_shell.specs.declared.runner.Tally.{Tally}
use Rattle.cmd_shell.specs.declared.runner.Outcome.{Outcome}
use Rattle.cmd_shell.specs.declared.runner.ShellFault.{ShellFault}
use Rattle.cmd_shell.specs.declared.runner.ShellFault.TheVariants.{Write}

-- the progress of a run with these counts, in a world
abbrev pub progress_of : Tally → World → RunProgress
progress_of tally world = record { world = world; closed = tally.closed; accepted = tally.outcome.accepted; refused = tally.outcome.refused }

-- a part of a script with the LF that ended it
abbrev pub ended_line : List ℕ → List ℕ
ended_line part = part ++ 10 ∷ []

-- the raw lines of a script that has these parts between its LFs: the last part has none, and is no
-- line if it is empty
abbrev pub lines_in : List (List ℕ) → List (List ℕ)
lines_in [] = []
lines_in ([] ∷ []) = []
lines_in ((byte ∷ rest) ∷ []) = (byte ∷ rest) ∷ []
lines_in (part ∷ next ∷ more) = ended_line part ∷ lines_in (next ∷ more)

-- how many lines were counted
abbrev pub line_count_of : {L W H : Type 0} → LineRunner L W H → ℕ
line_count_of run = run.tally.outcome.accepted + run.tally.outcome.refused

-- what the writer has, and the world
abbrev pub state_of : {L W H : Type 0} → (W → Option (List ℕ)) → (H → HostState) → LineRunner L W H → ScriptState
state_of contents state run = script_state (contents run.output.now.writer.now) (world_of (state run.host.now) run.session.now)

-- a run that goes on has its options, and what it was lent
pub record KeepsRun {L W H : Type 0} (first now : LineRunner L W H) : Type 0 where
  pub options : now.options.now ≡ first.options.now
  pub observer : now.observer.ghost_name ≡ first.observer.ghost_name
  pub output : now.output.ghost_name ≡ first.output.ghost_name
  pub writer : now.output.now.writer.ghost_name ≡ first.output.now.writer.ghost_name
  pub host : now.host.ghost_name ≡ first.host.ghost_name
  pub session : now.session.ghost_name ≡ first.session.ghost_name

-- an open run has come through these parts of a script, each of which is a line that has run, and
-- holds the bytes of the next one; if something is not delivered that was, a line has printed it
pub record HasRun {L W H : Type 0} (contents : W → Option (List ℕ)) (state : H → HostState) (first now : LineRunner L W H) (parts : List (List ℕ)) (begun : List ℕ) : Type 0 where
  pub keeps : KeepsRun first now
  pub ran : RanLines (options_of first.options.now) (state_of contents state first) (state_of contents state now) (map ended_line parts)
      (progress_of now.tally (world_of (state now.host.now) now.session.now))
  pub held : HoldsLine now.line begun
  pub open_run : now.tally.closed ≡ false
  pub unfailed : now.output.now.has_failed ≡ false
  pub observed : first.output.now.is_delivered ≡ true → now.output.now.is_delivered ≡ false → 0 < line_count_of now

-- the run ends: all lines have run, or a write failed at one of them
pub record EndsRun {L W H : Type 0} (contents : W → Option (List ℕ)) (state : H → HostState) (first now : LineRunner L W H) (parts : List (List ℕ)) (ended : Result Outcome ShellFault) : Type 0 where
  pub keeps : KeepsRun first now
  pub ran : MatchResult ended
      (λ outcome. (after : RunProgress) × RanLines (options_of first.options.now) (state_of contents state first) (state_of contents state now) (lines_in parts) after
      × (outcome.accepted ≡ after.accepted) × (outcome.refused ≡ after.refused) × (now.output.now.has_failed ≡ false))
      (λ fault. (fault ≡ Write) × StoppedAt (options_of first.options.now) (state_of contents state first) (state_of contents state now) (lines_in parts)
      × (now.output.now.has_failed ≡ true))

-- a line of an open run has run, and what it prints was written
pub record RunsLine (options : RunOptions) (line : List ℕ) (old new : ScriptState) (before after : Tally) : Type 0 where
  pub said : List ℕ
  pub reported : Line options line (progress_of before old.world) said (progress_of after new.world)
  pub written : Appends old.writer new.writer said

-- a write failed at a line of an open run: a part of what it prints was written, and the world is
-- that after the line
pub record StopsInLine (options : RunOptions) (line : List ℕ) (old new : ScriptState) (before : Tally) : Type 0 where
  pub said : List ℕ
  pub after : RunProgress
  pub reported : Line options line (progress_of before old.world) said after
  pub part : AppendsPart old.writer new.writer said
  pub world : new.world ≡ after.world
