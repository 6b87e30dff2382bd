-- What a script prints and changes, line by line.
use Rattle.std.specs.Prelude.{◌≡◌, ℕ, ◌+◌, List, [], ◌∷◌, ◌++◌, Bool, MatchBool, MatchOption, Option, Some, None, if◌then◌else◌, ◌||◌, false, not}
use Rattle.script_lines.specs.Act.{Does, LineResponse, World, printed_bytes}
use Rattle.script_lines.specs.Line.{act_of_line}
use Rattle.script_lines.specs.Status.{is_accepted}
use Rattle.script_lines.specs.declared.status.Status.{Status}
use Rattle.script_commands.specs.declared.observer.Refusals.{Refusals}
use Rattle.script_commands.specs.declared.observer.Refusals.TheVariants.{GoOn, Stop}

-- the host file in which `save` stores by default, by its name: an empty name is that of none
abbrev pub home_of : List ℕ → Option (List ℕ)
home_of [] = None
home_of (byte ∷ bytes) = Some (byte ∷ bytes)

-- how a script is run: the host file that `save` takes by default, if any, and what a refused line
-- does
pub record RunOptions : Type 0 where
  pub home : Option (List ℕ)
  pub refusals : Refusals

-- a script that goes on after refused lines
abbrev pub going_on : Option (List ℕ) → RunOptions
going_on home = record { home = home; refusals = GoOn }

-- whether a line of this status ends its script: a refused one, if refused lines stop
abbrev pub ends_script : Refusals → Status → Bool
ends_script GoOn status = false
ends_script Stop status = not (is_accepted status)

-- how far a run is: the world, whether a `quit` or a refused line ended it, and how many lines were
-- accepted and refused
pub record RunProgress : Type 0 where
  pub world : World
  pub closed : Bool
  pub accepted : ℕ
  pub refused : ℕ

-- the progress after a line with this response
abbrev pub counted_progress : Refusals → RunProgress → LineResponse → World → RunProgress
counted_progress refusals progress response world = record {
  world = world;
  closed = response.closes || ends_script refusals response.status;
  accepted = progress.accepted + (if is_accepted response.status then 1 else 0);
  refused = progress.refused + (if is_accepted response.status then 0 else 1);
}

-- nothing is printed and nothing changes
abbrev pub IsSilent : RunProgress → List ℕ → RunProgress → Type 0
IsSilent progress out after = (out ≡ []) × (after ≡ progress)

-- a line of an open run is skipped, or its command runs and prints
unfoldable pub Line : RunOptions → List ℕ → RunProgress → List ℕ → RunProgress → Type 0
Line options line progress out after =
    MatchOption (act_of_line options.home progress.world.history line)
    (IsSilent progress out after)
    (λ act. (response : LineResponse) × (world : World)
    × Does act progress.world response world × (out ≡ printed_bytes response) × (after ≡ counted_progress options.refusals progress response world))

-- lines in turn, each with what it prints; after the run's end they print nothing
unfoldable pub Transcript : RunOptions → List (List ℕ) → RunProgress → List ℕ → RunProgress → Type 0
Transcript options [] progress out after = IsSilent progress out after
Transcript options (line ∷ lines) progress out after =
    (said : List ℕ) × (more : List ℕ) × (middle : RunProgress)
    × (out ≡ said ++ more)
    × MatchBool progress.closed (IsSilent progress said middle) (Line options line progress said middle)
    × Transcript options lines middle more after
