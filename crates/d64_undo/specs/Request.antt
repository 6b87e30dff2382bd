-- Requests to a session, their outcomes, and runs of requests.
use Rattle.std.specs.Prelude.{◌≡◌, ◌≢◌, ◌+◌, ◌<◌, ◌≤◌, List, [], ◌∷◌, length, None, All}
use Rattle.d64_image.specs.Disk.{Disk}
use Rattle.d64_dos.specs.Command.{image_after, reply_to, refusal_of, IsWithin}
use Rattle.d64_dos.specs.Refusal.{cause_of}
use Rattle.d64_history.specs.History.{History, present_image, extended_history, undone_history, redone_history}
use Rattle.d64_dos.specs.Change.{Change, change_of}
use Rattle.d64_dos.specs.declared.refusal.Refusal.TheVariants.{Memory}
use Rattle.d64_undo.specs.declared.request.Request.{Request}
use Rattle.d64_undo.specs.declared.request.Request.TheVariants as requests
use Rattle.d64_undo.specs.declared.request.RequestOutcome.{RequestOutcome}
use Rattle.d64_undo.specs.declared.request.RequestOutcome.TheVariants.{Accepted, Refused, Undone, Redone, NothingToUndo, NothingToRedo}

-- a request to a session
pub data Asked : Type 0 where
  -- a change of the present disk
  Apply : Change → Asked
  Undo : Asked
  Redo : Asked

-- the request of the code as one of the definitions
abbrev pub asked_by : Request → Asked
asked_by (requests.Apply command) = Apply (change_of command)
asked_by requests.Undo = Undo
asked_by requests.Redo = Redo

-- an image has the block that a request names by itself
abbrev pub IsAskedOf : Disk → Asked → Type 0
IsAskedOf image (Apply change) = IsWithin image change
IsAskedOf image Undo = Unit {0}
IsAskedOf image Redo = Unit {0}

-- a request, its outcome, and the history before and after it; the only choice is that memory is out
-- in place of an acceptance
abbrev pub Step : History → Asked → RequestOutcome → History → Type 0
Step history (Apply change) (Accepted reply) next =
    (refusal_of (present_image history) change ≡ None)
    × (reply ≡ reply_to (present_image history) change)
    × (next ≡ extended_history history (image_after (present_image history) change))
Step history (Apply change) (Refused refusal) next =
    (cause_of refusal ≡ refusal_of (present_image history) change) × (next ≡ history)
Step history Undo Undone next = (0 < history.cursor) × (next ≡ undone_history history)
Step history Undo NothingToUndo next = (history.cursor ≡ 0) × (next ≡ history)
Step history Redo Redone next = (history.cursor + 1 < length history.images) × (next ≡ redone_history history)
Step history Redo NothingToRedo next = (length history.images ≤ history.cursor + 1) × (next ≡ history)
Step history request outcome next = ⊥

-- requests, their outcomes in turn, and the history before and after them
abbrev pub Run : History → List Asked → List RequestOutcome → History → Type 0
Run history [] [] next = next ≡ history
Run history (request ∷ requests) (outcome ∷ outcomes) next =
    (between : History) × (Step history request outcome between × Run between requests outcomes next)
Run history requests outcomes next = ⊥

-- memory was never out
abbrev pub HasMemory : List RequestOutcome → Type 0
HasMemory outcomes = All (λ outcome. outcome ≢ Refused Memory) outcomes

-- two runs of the same requests from the same history are the same if memory was never out
abbrev pub MemoryAloneIsFree : Type 0
MemoryAloneIsFree =
    (history : History) (requests : List Asked) (outcomes others : List RequestOutcome) (next other : History)
    → Run history requests outcomes next → Run history requests others other
    → HasMemory outcomes → HasMemory others
    → (outcomes ≡ others) × (next ≡ other)

-- if memory was out, the request is a command that could have been accepted, and the history is
-- unchanged
abbrev pub MemoryForAcceptance : Type 0
MemoryForAcceptance =
    (history : History) (request : Asked) (next : History)
    → Step history request (Refused Memory) next
    → (next ≡ history) × ((change : Change) × ((request ≡ Apply change)
    × Step history request (Accepted (reply_to (present_image history) change)) (extended_history history (image_after (present_image history) change))))
