-- How a run over a list that is read as it comes ends.
use Rattle.std.proofs.Common.{◌≡◌, ℕ, Bool, List, Option, Result, Ok, Err, subst}
use Rattle.script_text.specs.Parts.{CutsShort, Ends}
use Rattle.script_text.proofs.PartSteps.{HasCome-same}
use Rattle.program_surveys.specs.Names.{requests_in}
use Rattle.program_surveys.specs.Runs.{Runs, Steps}
use Rattle.program_surveys.specs.Lists.{EndsList, HasComeTo, ListView, LosesStream, RunsStream, effects_of, list_state_of}
use Rattle.program_console.specs.declared.stream_fault.StreamFault.{StreamFault}
use Rattle.program_console.specs.declared.stream_fault.StreamFault.TheVariants as faults
use Rattle.program_surveys.specs.declared.list_batch.ListRun.{ListRun}

-- a run that has ended
pub RunsStream-ended : {H C W F : Type 0} (view : ListView H C W F) (first now : ListRun H C W F) (separator : ℕ) (reader left : Option (List ℕ)) (has_failed : Bool) (result : Result (Unit {0}) StreamFault)
    → Ends (λ parts. EndsList view first now parts result) separator reader
    → RunsStream (effects_of view first) separator reader left has_failed (list_state_of view first) (list_state_of view now) result
RunsStream-ended view first now separator reader left has_failed (Ok done) ends = record { input = ends.input; all = ends.all; here = ends.here.processed }
RunsStream-ended view first now separator reader left has_failed (Err faults.Read) ends = absurd ends.here.processed.stopped
RunsStream-ended view first now separator reader left has_failed (Err faults.Write) ends = record { input = ends.input; all = ends.all; here = ends.here.processed }
RunsStream-ended view first now separator reader left has_failed (Err faults.Memory) ends = record { input = ends.input; all = ends.all; here = ends.here.processed }

-- a list that cannot be read to its end
pub LosesStream-by : {H C W F : Type 0} (view : ListView H C W F) (first now : ListRun H C W F) (separator : ℕ) (reader left : Option (List ℕ)) (has_failed : Bool)
    → CutsShort (HasComeTo view first now) separator reader left has_failed
    → LosesStream (effects_of view first) separator reader left has_failed (list_state_of view first) (list_state_of view now)
LosesStream-by view first now separator reader left has_failed short = record {
  consumed = short.consumed;
  lost = short.lost;
  cause = short.cause;
  has_come = HasCome-same (HasComeTo view first now) (λ parts begun. Steps (effects_of view first) (requests_in parts) (list_state_of view first) (list_state_of view now)) separator _ short.has_come
      (λ parts begun here. here.processed);
}

-- a run ends with no fault of the list
pub never_lost : {H C W F : Type 0} (view : ListView H C W F) (first now : ListRun H C W F) (parts : List (List ℕ)) (result : Result (Unit {0}) StreamFault)
    → EndsList view first now parts result → result ≡ Err faults.Read → ⊥
never_lost view first now parts result ends is =
    (subst (λ r. Runs (effects_of view first) (requests_in parts) (list_state_of view first) (list_state_of view now) r) is ends.processed).stopped
