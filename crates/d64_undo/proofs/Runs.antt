-- runs of requests: a run with one request more, and what is free in a run
use Rattle.std.proofs.Common.{◌≡◌, ◌≢◌, ℕ, ◌<◌, length, List, [], ◌∷◌, ◌++◌, Option, Some, None, refl, sym, ap, ap₂, ◌∙◌, subst, arith}
use Rattle.std.proofs.lemmas.List.Elements.{All-head, All-tail}
use Rattle.std.specs.Prelude.{MatchOption}
use Rattle.d64_dos.specs.Command.{row}
use Rattle.d64_dos.specs.Refusal.{cause_of}
use Rattle.d64_history.specs.History.{History}
use Rattle.d64_undo.specs.Request.{Asked, Apply, Undo, Redo, IsAskedOf, Step, Run, HasMemory}
use Rattle.d64_dos.specs.declared.refusal.Refusal.{Refusal}
use Rattle.d64_dos.specs.declared.refusal.Refusal.TheVariants.{NotClosed, NotFound, Exists, WrongType, Directory, Lost, DiskFull, Memory}
use Rattle.d64_undo.specs.declared.request.RequestOutcome.{RequestOutcome}
use Rattle.d64_undo.specs.declared.request.RequestOutcome.TheVariants.{Accepted, Refused, Undone, Redone, NothingToUndo, NothingToRedo}

-- a run and one step more are a run
pub Run-push : (history between next : History) (requests : List Asked) (outcomes : List RequestOutcome) (request : Asked) (outcome : RequestOutcome)
    → Run history requests outcomes between → Step between request outcome next
    → Run history (requests ++ request ∷ []) (outcomes ++ outcome ∷ []) next
Run-push history between next [] [] request outcome run step =
    (next, (subst (λ (h : History). Step h request outcome next) run step, refl))
Run-push history between next [] (a ∷ outcomes) request outcome run step = absurd run
Run-push history between next (r ∷ requests) [] request outcome run step = absurd run
Run-push history between next (r ∷ requests) (a ∷ outcomes) request outcome run step =
    (run.0, (run.1.0, Run-push run.0 between next requests outcomes request outcome run.1.1 step))

-- a refusal by its cause in the image
abbrev refusal_by : Option Refusal → Refusal
refusal_by (Some refusal) = refusal
refusal_by None = Memory

-- each refusal is that of its cause
refusal_by-cause_of : (refusal : Refusal) → refusal_by (cause_of refusal) ≡ refusal
refusal_by-cause_of NotClosed = refl
refusal_by-cause_of NotFound = refl
refusal_by-cause_of Exists = refl
refusal_by-cause_of WrongType = refl
refusal_by-cause_of (Directory fault) = refl
refusal_by-cause_of Lost = refl
refusal_by-cause_of DiskFull = refl
refusal_by-cause_of Memory = refl

-- only a refusal for memory has no cause in the image
without_cause : (refusal : Refusal) → cause_of refusal ≡ None → refusal ≡ Memory
without_cause refusal e = sym (refusal_by-cause_of refusal) ∙ ap refusal_by e

-- refusals with the same cause in the image are the same
same_cause : (refusal other : Refusal) → cause_of refusal ≡ cause_of other → refusal ≡ other
same_cause refusal other e = sym (refusal_by-cause_of refusal) ∙ ap refusal_by e ∙ refusal_by-cause_of other

-- a step is a function of the history and the request
same_step : (history : History) (request : Asked) (outcome other : RequestOutcome) (next after : History)
    → Step history request outcome next → Step history request other after
    → outcome ≢ Refused Memory → other ≢ Refused Memory → (outcome ≡ other) × (next ≡ after)
same_step history (Apply change) (Accepted reply) (Accepted also) next after p q f g =
    (ap Accepted (p.1 ∙ sym q.1), p.2 ∙ sym q.2)
same_step history (Apply change) (Accepted reply) (Refused refusal) next after p q f g =
    absurd (g (ap Refused (without_cause refusal (q.0 ∙ p.0))))
same_step history (Apply change) (Refused refusal) (Accepted reply) next after p q f g =
    absurd (f (ap Refused (without_cause refusal (p.0 ∙ q.0))))
same_step history (Apply change) (Refused refusal) (Refused also) next after p q f g =
    (ap Refused (same_cause refusal also (p.0 ∙ sym q.0)), p.1 ∙ sym q.1)
same_step history Undo Undone Undone next after p q f g = (refl, p.1 ∙ sym q.1)
same_step history Undo NothingToUndo NothingToUndo next after p q f g = (refl, p.1 ∙ sym q.1)
same_step history Undo Undone NothingToUndo next after p q f g = absurd (omega arith)
same_step history Undo NothingToUndo Undone next after p q f g = absurd (omega arith)
same_step history Redo Redone Redone next after p q f g = (refl, p.1 ∙ sym q.1)
same_step history Redo NothingToRedo NothingToRedo next after p q f g = (refl, p.1 ∙ sym q.1)
same_step history Redo Redone NothingToRedo next after p q f g = absurd (omega arith)
same_step history Redo NothingToRedo Redone next after p q f g = absurd (omega arith)
same_step history request outcome other next after p q f g = absurd (assumption)

-- no reply is that memory is out, so the first is not
first_with_memory : (outcome : RequestOutcome) (outcomes : List RequestOutcome) → HasMemory (outcome ∷ outcomes) → outcome ≢ Refused Memory
first_with_memory outcome outcomes f = All-head (λ x. x ≢ Refused Memory) outcome outcomes f

-- no reply is that memory is out, so no later one is
rest_with_memory : (outcome : RequestOutcome) (outcomes : List RequestOutcome) → HasMemory (outcome ∷ outcomes) → HasMemory outcomes
rest_with_memory outcome outcomes f = All-tail (λ x. x ≢ Refused Memory) outcome outcomes f

-- a run is a function of the history and the requests
pub same_run : (history : History) (requests : List Asked) (outcomes others : List RequestOutcome) (next other : History)
    → Run history requests outcomes next → Run history requests others other
    → HasMemory outcomes → HasMemory others → (outcomes ≡ others) × (next ≡ other)
same_run history [] [] [] next other p q f g = (refl, p ∙ sym q)
same_run history [] [] (b ∷ others) next other p q f g = absurd q
same_run history [] (a ∷ outcomes) others next other p q f g = absurd p
same_run history (r ∷ requests) [] others next other p q f g = absurd p
same_run history (r ∷ requests) (a ∷ outcomes) [] next other p q f g = absurd q
same_run history (r ∷ requests) (a ∷ outcomes) (b ∷ others) next other p q f g =
    let first = same_step history r a b p.0 q.0 p.1.0 q.1.0 (first_with_memory a outcomes f) (first_with_memory b others g) in
    let rest =
    same_run p.0 requests outcomes others next other p.1.1 (subst (λ (h : History). Run h requests others other) (sym first.1) q.1.1)
    (rest_with_memory a outcomes f) (rest_with_memory b others g) in
    (ap₂ (λ (x : RequestOutcome) (xs : List RequestOutcome). x ∷ xs) first.0 rest.0, rest.1)

-- an image with as many blocks has the block that a request names
named_alike : (image other : List (List ℕ)) (block : Option ℕ) → length other ≡ length image
    → MatchOption block (Unit {0}) (λ b. b < length image) → MatchOption block (Unit {0}) (λ b. b < length other)
named_alike image other None long h = tt
named_alike image other (Some block) long h = omega arith

pub asked_alike : (image other : List (List ℕ)) (request : Asked) → length other ≡ length image → IsAskedOf image request → IsAskedOf other request
asked_alike image other (Apply change) long h = named_alike image other (row change).block long h
asked_alike image other Undo long h = tt
asked_alike image other Redo long h = tt
