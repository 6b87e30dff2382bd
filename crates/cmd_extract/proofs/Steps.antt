-- How a work is done, step by step.
use Rattle.std.proofs.Common.{◌≡◌, ℕ, List, Bool, true, false, Option, Some, None, refl, sym, ap, subst, inl, inr, Result, Ok, Err}
use Rattle.std.specs.Prelude.{OnOk, IfOk, IsErr, MatchResult}
use Rattle.std.specs.Str.{is_utf8}
use Rattle.host_storage.specs.Files.{Files, HostState}
use Rattle.program_surveys.specs.FileOutcomes.{FileOutcome}
use Rattle.program_console.specs.declared.reason.Reason.{Reason}
use Rattle.program_surveys.specs.declared.report.Verdict.{Verdict}
use Rattle.program_surveys.specs.declared.report.ReportBuffer.{ReportBuffer}
use Rattle.cmd_extract.specs.Work.{Work, Done, Then, Why, HostCall, CallReturns, IsReasonAt, DoesWork, LeadsTo, Comes, EndsWork, outcome_in}
use Rattle.cmd_extract.specs.Progress.{Progress}

-- memory may run out before anything is done
pub stops : (work : Work) (host : HostState) → DoesWork work host None host
unfolding DoesWork
stops (Done outcome) host = (refl, inr refl)
stops (Then call next) host = inr (refl, refl)
stops (Why path next) host = inr (refl, refl)

-- work that is done has its result
pub gives_outcome : (outcome : FileOutcome) (host : HostState) → DoesWork (Done outcome) host (Some outcome) host
unfolding DoesWork
gives_outcome outcome host = (refl, inl refl)

-- a call was made
pub called : (call : HostCall) (next : Bool → Work) (old now : HostState) (said : Bool) → CallReturns call old said now → LeadsTo (Then call next) old (next said) now
unfolding DoesWork
called call next old now said says = λ given new done. inl (said, now, says, done)

-- the host gave the reason why a call was refused
pub explained : (path : List ℕ) (next : Option Reason → Work) (host : HostState) (reason : Option Reason) → IsReasonAt (is_utf8 path) host.files path reason → LeadsTo (Why path next) host (next reason) host
unfolding DoesWork
explained path next host reason says = λ given new done. inl (reason, says, done)

-- the reason at a path is the one at the same path
pub same_reason : (path other : List ℕ) (files : Option Files) (reason : Option Reason) → path ≡ other → IsReasonAt (is_utf8 path) files path reason
    → IsReasonAt (is_utf8 other) files other reason
same_reason path other files reason is says = subst (λ (q : List ℕ). IsReasonAt (is_utf8 q) files q reason) is says

-- one part of the way after another
pub further : (work middle rest : Work) (old reached now : HostState) → LeadsTo work old middle reached → LeadsTo middle reached rest now → LeadsTo work old rest now
further work middle rest old reached now first second = λ given new done. first given new (second given new done)

pub comes_further : {A E : Type 0} (result : Result A E) (work middle rest : Work) (old reached now : HostState) → LeadsTo work old middle reached → Comes result middle reached rest now
    → Comes result work old rest now
comes_further (Ok done) work middle rest old reached now first second = further work middle rest old reached now first second
comes_further (Err fault) work middle rest old reached now first second = first None now second

-- one that ends there
pub comes_here : {A E : Type 0} (result : Result A E) (work rest : Work) (old now : HostState) → LeadsTo work old rest now → Comes result work old rest now
comes_here (Ok done) work rest old now leads = leads
comes_here (Err fault) work rest old now leads = leads None now (stops rest now)

-- what has come so far, if it is as it should be
pub comes_to : {A E : Type 0} (result : Result A E) (work : Work) (rest : Progress → Work) (old now : HostState) (reached wanted : Progress) → OnOk result (reached ≡ wanted)
    → LeadsTo work old (rest wanted) now → Comes result work old (rest reached) now
comes_to (Ok done) work rest old now reached wanted is leads = subst (λ (p : Progress). LeadsTo work old (rest p) now) (sym is) leads
comes_to (Err fault) work rest old now reached wanted is leads = leads None now (stops (rest wanted) now)

-- no work was done yet
pub nothing_yet : (work : Work) (host : HostState) → LeadsTo work host work host
nothing_yet work host = λ given new done. done

-- memory ran out
pub comes_not : {A E : Type 0} (result : Result A E) (work rest : Work) (old now : HostState) → IsErr result → DoesWork work old None now → Comes result work old rest now
comes_not (Ok done) work rest old now is stopped = absurd (let f : false ≡ true = is in cc)
comes_not (Err fault) work rest old now is stopped = stopped

-- what holds if memory ran out
pub match_not : {A E : Type 0} (result : Result A E) (P : A → Type 0) (Q : Type 0) → IsErr result → Q → MatchResult result P (λ fault. Q)
match_not (Ok done) P Q is holds = absurd (let f : false ≡ true = is in cc)
match_not (Err fault) P Q is holds = holds

-- one part of the way, and then the end
pub ends_after : {E : Type 0} (result : Result Verdict E) (buffer : ReportBuffer) (work middle : Work) (old reached now : HostState) → LeadsTo work old middle reached
    → EndsWork result buffer middle reached now → EndsWork result buffer work old now
ends_after (Ok verdict) buffer work middle old reached now first second = first (Some (outcome_in buffer verdict)) now second
ends_after (Err fault) buffer work middle old reached now first second = first None now second

-- the end with a result
pub ends_with : {E : Type 0} (result : Result Verdict E) (buffer : ReportBuffer) (outcome : FileOutcome) (host : HostState) → IfOk result (λ verdict. outcome_in buffer verdict ≡ outcome)
    → EndsWork result buffer (Done outcome) host host
unfolding DoesWork
ends_with (Ok verdict) buffer outcome host is = (refl, inl (ap (λ (a : FileOutcome). Some a) is))
ends_with (Err fault) buffer outcome host is = (refl, inr refl)

-- the end as memory ran out
pub ends_not : {E : Type 0} (result : Result Verdict E) (buffer : ReportBuffer) (work : Work) (old now : HostState) → IsErr result → DoesWork work old None now → EndsWork result buffer work old now
ends_not (Ok verdict) buffer work old now is stopped = absurd (let f : false ≡ true = is in cc)
ends_not (Err fault) buffer work old now is stopped = stopped
