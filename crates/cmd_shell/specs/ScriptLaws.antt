-- What follows from the definition of a transcript.
use Rattle.std.specs.Prelude.{◌≡◌, ℕ, ◌≤◌, List, ◌∷◌, length, All, Some, codes}
use Rattle.d64_history.specs.History.{History}
use Rattle.d64_undo.specs.Request.{Asked, Run}
use Rattle.d64_undo.specs.SoundHistory.{HoldsSoundDisks}
use Rattle.d64_undo.specs.declared.request.RequestOutcome.{RequestOutcome}
use Rattle.script_text.specs.RawLines.{text_of}
use Rattle.script_text.specs.Words.{words_of_line}
use Rattle.cmd_shell.specs.Transcript.{RunOptions, RunProgress, Transcript}

-- a run of at most n requests leads from one history to another
pub record IsReachedIn (most : ℕ) (before after : History) : Type 0 where
  pub requests : List Asked
  pub outcomes : List RequestOutcome
  pub few : length requests ≤ most
  pub run : Run before requests outcomes after

-- a script changes the history as a run of requests does, with at most one request for each line
abbrev pub ScriptsAreRuns : Type 0
ScriptsAreRuns =
    (options : RunOptions) (lines : List (List ℕ)) (progress : RunProgress) (out : List ℕ) (after : RunProgress)
    → Transcript options lines progress out after
    → IsReachedIn (length lines) progress.world.history after.world.history

-- the first word of a line is that of a block write
pub record IsBlockWrite (line : List ℕ) : Type 0 where
  pub words : List (List ℕ)
  pub cut : words_of_line (text_of line) ≡ Some (codes "bwrite" ∷ words)

-- lines without block writes leave sound disks sound, whatever the host does
abbrev pub ScriptsKeepDisksSound : Type 0
ScriptsKeepDisksSound =
    (options : RunOptions) (lines : List (List ℕ)) (progress : RunProgress) (out : List ℕ) (after : RunProgress)
    → Transcript options lines progress out after → All (λ line. ¬ (IsBlockWrite line)) lines
    → HoldsSoundDisks progress.world.history → HoldsSoundDisks after.world.history
