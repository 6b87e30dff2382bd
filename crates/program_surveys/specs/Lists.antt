-- Runs over the names of a list, as its bytes come.
use Rattle.std.specs.Prelude.{◌≡◌, ℕ, Bool, List, Option, Result, Ok, Err, OnOk}
use Rattle.host_storage.specs.Files.{HostState}
use Rattle.script_text.specs.Parts.{CutsShort, Ends}
use Rattle.program_surveys.specs.Names.{kept_name, requests_in}
use Rattle.program_surveys.specs.FileOutcomes.{Effects, KeepsQuiet}
use Rattle.program_surveys.specs.Runs.{RunState, Runs, Steps, StopsIn, run_state_at}
use Rattle.program_console.specs.declared.stream_fault.StreamFault.{StreamFault}
use Rattle.program_console.specs.declared.stream_fault.StreamFault.TheVariants as faults
use Rattle.program_console.specs.Console.{Delivers, SameWriters}
use Rattle.program_surveys.specs.declared.list_batch.ListRun.{ListRun}
use Rattle.program_surveys.specs.declared.report.Verdict.TheVariants.{Clean}

-- the whole list was read, and all of its names are processed
abbrev pub ProcessesStream : Effects → ℕ → Option (List ℕ) → RunState → RunState → Type 0
ProcessesStream effects separator reader old new = Ends (λ parts. Steps effects (requests_in parts) old new) separator reader

-- a list cannot be read to its end: the names that have ended within the limit are processed
abbrev pub LosesStream : Effects → ℕ → Option (List ℕ) → Option (List ℕ) → Bool → RunState → RunState → Type 0
LosesStream effects separator reader left has_failed old new =
    CutsShort (λ parts begun. Steps effects (requests_in parts) old new) separator reader left has_failed

-- a run stops at a name of a list that is read as it comes
abbrev pub StopsInStream : Effects → ℕ → Option (List ℕ) → StreamFault → RunState → RunState → Type 0
StopsInStream effects separator reader fault old new = Ends (λ parts. StopsIn effects (requests_in parts) fault old new) separator reader

-- how a run over a list that is read as it comes ends; the flag says whether a read failed
abbrev pub RunsStream : {A : Type 0} → Effects → ℕ → Option (List ℕ) → Option (List ℕ) → Bool → RunState → RunState → Result A StreamFault → Type 0
RunsStream effects separator reader left has_failed old new (Ok done) = ProcessesStream effects separator reader old new
RunsStream effects separator reader left has_failed old new (Err faults.Read) = LosesStream effects separator reader left has_failed old new
RunsStream effects separator reader left has_failed old new (Err faults.Write) = StopsInStream effects separator reader faults.Write old new
RunsStream effects separator reader left has_failed old new (Err faults.Memory) = StopsInStream effects separator reader faults.Memory old new

-- a run that goes on has what it was lent
pub record KeepsLent {H C W F : Type 0} (first now : ListRun H C W F) : Type 0 where
  pub list : now.list.ghost_name ≡ first.list.ghost_name
  pub host : now.host.ghost_name ≡ first.host.ghost_name
  pub task : now.task.ghost_name ≡ first.task.ghost_name
  pub outputs : now.outputs.ghost_name ≡ first.outputs.ghost_name
  pub writers : SameWriters first.outputs.now now.outputs.now

-- how the state and the effects of a run over a list are read from what it has
pub record ListView (H C W F : Type 0) : Type 1 where
  pub Options : Type 0
  pub options : C → Options
  pub effects : Options → Effects
  pub host : H → HostState
  pub printed : W → Option (List ℕ)
  pub complained : F → Option (List ℕ)

abbrev pub view_of : {H C W F O : Type 0} → (C → O) → (O → Effects) → (H → HostState) → (W → Option (List ℕ)) → (F → Option (List ℕ)) → ListView H C W F
view_of {H} {C} {W} {F} {O} options effects host printed complained =
    record { Options = O; options = options; effects = effects; host = host; printed = printed; complained = complained }

-- the effects of the task of a run, and its state
abbrev pub effects_of : {H C W F : Type 0} → ListView H C W F → ListRun H C W F → Effects
effects_of view run = view.effects (view.options run.task.now)

abbrev pub list_state_of : {H C W F : Type 0} → ListView H C W F → ListRun H C W F → RunState
list_state_of view run = run_state_at view.printed view.complained run.outputs.now (view.host run.host.now) run.list.now.batch.worst

-- what stays the same in a run over a list; a quiet task that finds nothing amiss leaves the
-- standard error alone
pub record KeepsList {H C W F : Type 0} (view : ListView H C W F) (first now : ListRun H C W F) : Type 0 where
  pub lent : KeepsLent first now
  pub separator : now.list.now.separator ≡ first.list.now.separator
  pub options : view.options now.task.now ≡ view.options first.task.now
  pub silent : KeepsQuiet (effects_of view first) → now.list.now.batch.worst ≡ Clean
      → (first.list.now.batch.worst ≡ Clean) × (now.outputs.now.faults ≡ first.outputs.now.faults)

-- a run has come through these parts of a list and the bytes of the next one, which it holds
pub record HasComeTo {H C W F : Type 0} (view : ListView H C W F) (first now : ListRun H C W F) (parts : List (List ℕ)) (begun : List ℕ) : Type 0 where
  pub keeps : KeepsList view first now
  pub delivered : Delivers first.outputs.now.output now.outputs.now.output
  pub held : now.list.now.name ≡ kept_name begun
  pub processed : Steps (effects_of view first) (requests_in parts) (list_state_of view first) (list_state_of view now)

-- a run over a list of these parts has ended
pub record EndsList {H C W F : Type 0} (view : ListView H C W F) (first now : ListRun H C W F) (parts : List (List ℕ)) (ended : Result (Unit {0}) StreamFault) : Type 0 where
  pub keeps : KeepsList view first now
  pub delivered : OnOk ended (Delivers first.outputs.now.output now.outputs.now.output)
  pub processed : Runs (effects_of view first) (requests_in parts) (list_state_of view first) (list_state_of view now) ended
