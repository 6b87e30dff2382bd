-- How far a run over a list has come, name by name.
use Rattle.std.proofs.Common.{◌≡◌, ℕ, true, List, [], ◌∷◌, ◌++◌, Result, Ok, Err, refl, sym, ap, ◌∙◌, subst, append_assoc}
use Rattle.std.specs.Prelude.{OnOk}
use Rattle.program_surveys.specs.Names.{Request, kept_name, requests_in, requests_of}
use Rattle.program_surveys.specs.FileOutcomes.{Effects, KeepsQuiet}
use Rattle.program_surveys.specs.declared.list_batch.ListRun.{ListRun}
use Rattle.program_surveys.specs.Runs.{RunState, Steps, Runs, StopsIn, EndsAt}
use Rattle.program_surveys.specs.Lists.{HasComeTo, KeepsList, ListView, effects_of, list_state_of}
use Rattle.program_console.specs.declared.stream_fault.StreamFault.{StreamFault}
use Rattle.program_surveys.proofs.RunSteps.{Steps-none, Runs-one, Runs-append, StopsIn-more}
use Rattle.program_surveys.proofs.ListNames.{requests_in-append, requests_in-nil, requests_in-one}

pub KeepsList-none : {H C W F : Type 0} (view : ListView H C W F) (run : ListRun H C W F) → KeepsList view run run
KeepsList-none view run = record {
  lent = record { list = refl; host = refl; task = refl; outputs = refl; writers = (refl, refl) };
  separator = refl;
  options = refl;
  silent = λ quiet clean. (clean, refl);
}

-- nothing has come
pub HasComeTo-none : {H C W F : Type 0} (view : ListView H C W F) (run : ListRun H C W F) → run.list.now.name ≡ [] → run.outputs.now.output.is_delivered ≡ true → HasComeTo view run run [] []
HasComeTo-none view run fresh delivered = record {
  keeps = KeepsList-none view run;
  delivered = (delivered, refl);
  held = fresh;
  processed = subst (λ (l : List Request). Steps (effects_of view run) l (list_state_of view run) (list_state_of view run)) (sym requests_in-nil) (Steps-none (effects_of view run) (list_state_of view run));
}

-- what stays the same stays so
pub KeepsList-trans : {H C W F : Type 0} (view : ListView H C W F) (first old new : ListRun H C W F) → KeepsList view first old → KeepsList view old new → KeepsList view first new
KeepsList-trans view first old new a b = record {
  lent = record {
    list = b.lent.list ∙ a.lent.list;
    host = b.lent.host ∙ a.lent.host;
    task = b.lent.task ∙ a.lent.task;
    outputs = b.lent.outputs ∙ a.lent.outputs;
    writers = (b.lent.writers.0 ∙ a.lent.writers.0, b.lent.writers.1 ∙ a.lent.writers.1);
  };
  separator = b.separator ∙ a.separator;
  options = b.options ∙ a.options;
  silent = λ quiet clean.
      let later = b.silent (subst (λ o. KeepsQuiet (view.effects o)) (sym a.options) quiet) clean in
      let earlier = a.silent quiet later.0 in
      (earlier.0, later.1 ∙ earlier.1);
}

-- a part more, with the name that is kept of it
pub Runs-part : {A : Type 0} (effects same : Effects) (parts : List (List ℕ)) (part held : List ℕ) (a b c : RunState) (result : Result A StreamFault)
    → Steps effects (requests_in parts) a b → same ≡ effects → held ≡ kept_name part → Runs same (requests_of held) b c result
    → Runs effects (requests_in (parts ++ part ∷ [])) a c result
Runs-part {A} effects same parts part held a b c result steps is_same is ran =
    subst (λ (l : List Request). Runs effects l a c result)
    (sym (requests_in-append parts (part ∷ []) ∙ ap (λ (l : List Request). requests_in parts ++ l) (requests_in-one part ∙ ap requests_of (sym is))))
    (Runs-append effects (requests_in parts) (requests_of held) a b c result steps (subst (λ (r : Effects). Runs r (requests_of held) b c result) is_same ran))

-- a run that stops at a part does so whatever comes after it
pub StopsIn-part : (effects : Effects) (parts more : List (List ℕ)) (part : List ℕ) (fault : StreamFault) (a c : RunState)
    → StopsIn effects (requests_in (parts ++ part ∷ [])) fault a c → StopsIn effects (requests_in (parts ++ part ∷ more)) fault a c
StopsIn-part effects parts more part fault a c stops =
    subst (λ (l : List Request). StopsIn effects l fault a c)
    (sym (requests_in-append (parts ++ part ∷ []) more) ∙ ap requests_in (append_assoc parts (part ∷ []) more))
    (StopsIn-more effects (requests_in (parts ++ part ∷ [])) (requests_in more) fault a c stops)

-- what follows from what an Ok says
pub OnOk-map : {A E : Type 0} (result : Result A E) (P Q : Type 0) → (P → Q) → OnOk result P → OnOk result Q
OnOk-map (Ok done) P Q step p = step p
OnOk-map (Err fault) P Q step p = tt

-- an empty name gives no request
pub Runs-no_name : (effects : Effects) (a : RunState) (requests : List Request) → requests ≡ [] → Steps effects requests a a
Runs-no_name effects a requests none = subst (λ (l : List Request). Steps effects l a a) (sym none) (Steps-none effects a)

-- a name gives one request
pub Runs-name : {A : Type 0} (effects : Effects) (request : Request) (a b : RunState) (requests : List Request) (result : Result A StreamFault)
    → requests ≡ request ∷ [] → EndsAt effects request a b result → Runs effects requests a b result
Runs-name effects request a b requests result is ends = subst (λ (l : List Request). Runs effects l a b result) (sym is) (Runs-one effects request a b result ends)
