-- sound histories stay sound
use Rattle.std.proofs.Common.{◌≡◌, ℕ, ◌+◌, ◌<◌, List, [], ◌∷◌, take, length, refl, subst, sym, arith}
use Rattle.std.specs.Prelude.{All}
use Rattle.std.proofs.lemmas.List.Elements.{All-nil, All-cons, All-append, All-take, All-get_or}
use Rattle.d64_effects.specs.View.{IsSound}
use Rattle.d64_history.specs.History.{History, IsHistory, present_image, new_history, extended_history, undone_history, redone_history}
use Rattle.d64_undo.specs.SoundHistory.{IsSoundHistory, HoldsSoundDisks, KeepsDisksSound}
use Rattle.d64_undo.specs.Request.{Asked, Apply, Undo, Redo, Step}
use Rattle.d64_undo.specs.declared.request.RequestOutcome.{RequestOutcome}
use Rattle.d64_undo.specs.declared.request.RequestOutcome.TheVariants.{Accepted, Refused, Undone, Redone, NothingToUndo, NothingToRedo}
use Rattle.d64_history.proofs.Histories.{IsHistory-extended_history}
use Rattle.d64_image.specs.Image.{IsImage}
use Rattle.d64_dos.specs.Command.{image_after}
use Rattle.d64_dos.proofs.Steps.{keeps_sound, starts_from_sound}

-- the history that begins with a sound image
pub new_history-sound : (image : List (List ℕ)) → IsSound image → IsSoundHistory (new_history image)
unfolding IsSoundHistory
new_history-sound image sound = All-cons IsSound image [] sound (All-nil IsSound)

-- the present image of a sound history
pub present_image-sound : (history : History) → IsHistory history → IsSoundHistory history → IsSound (present_image history)
unfolding IsSoundHistory
present_image-sound history is all = All-get_or IsSound history.images history.cursor [] is all

-- a sound image is added to a sound history
pub extended_history-sound : (history : History) (image : List (List ℕ)) → IsSoundHistory history → IsSound image → IsSoundHistory (extended_history history image)
unfolding IsSoundHistory
extended_history-sound history image all sound =
    All-append IsSound (take (history.cursor + 1) history.images) (image ∷ []) (All-take IsSound (history.cursor + 1) history.images all)
    (All-cons IsSound image [] sound (All-nil IsSound))

-- the same images under another cursor
pub moved-sound : (history other : History) → other.images ≡ history.images → IsSoundHistory history → IsSoundHistory other
unfolding IsSoundHistory
moved-sound history other same all = subst (All IsSound) (sym same) all

-- a history of sound disks holds one more
holds-extended_history : (history : History) (image : List (List ℕ)) → IsImage image → IsSound image → HoldsSoundDisks history → HoldsSoundDisks (extended_history history image)
holds-extended_history history image is sound holds = record {
  is_history = IsHistory-extended_history history image holds.is_history;
  are_images = All-append IsImage (take (history.cursor + 1) history.images) (image ∷ []) (All-take IsImage (history.cursor + 1) history.images holds.are_images)
      (All-cons IsImage image [] is (All-nil IsImage));
  sound = extended_history-sound history image holds.sound sound;
}

-- and stays one under another cursor
holds-moved : (history other : History) → other.images ≡ history.images → other.cursor < length history.images → HoldsSoundDisks history → HoldsSoundDisks other
holds-moved history other same lies holds = record {
  is_history = subst (λ (images : List (List (List ℕ))). other.cursor < length images) (sym same) lies;
  are_images = subst (All IsImage) (sym same) holds.are_images;
  sound = moved-sound history other same holds.sound;
}

-- whatever the reply to a request that keeps disks sound, sound disks are left
pub step-sound : (history : History) (request : Asked) (outcome : RequestOutcome) (next : History)
    → Step history request outcome next → KeepsDisksSound request → HoldsSoundDisks history → HoldsSoundDisks next
step-sound history (Apply change) (Accepted reply) next (none, same, is) (file, made) holds =
    let image = All-get_or IsImage history.images history.cursor [] holds.is_history holds.are_images in
    let sound = present_image-sound history holds.is_history holds.sound in
    let left = keeps_sound (present_image history) change image made none (starts_from_sound (present_image history) change file sound) in
    subst HoldsSoundDisks (sym is) (holds-extended_history history (image_after (present_image history) change) left.is_image left.sound holds)
step-sound history (Apply change) (Refused refusal) next (cause, is) keeps holds = subst HoldsSoundDisks (sym is) holds
step-sound history (Apply change) Undone next never keeps holds = absurd never
step-sound history (Apply change) Redone next never keeps holds = absurd never
step-sound history (Apply change) NothingToUndo next never keeps holds = absurd never
step-sound history (Apply change) NothingToRedo next never keeps holds = absurd never
step-sound history Undo Undone next (some, is) keeps holds =
    let is_history = holds.is_history in
    subst HoldsSoundDisks (sym is) (holds-moved history (undone_history history) refl (omega arith) holds)
step-sound history Undo NothingToUndo next (nothing, is) keeps holds = subst HoldsSoundDisks (sym is) holds
step-sound history Undo (Accepted reply) next never keeps holds = absurd never
step-sound history Undo (Refused refusal) next never keeps holds = absurd never
step-sound history Undo Redone next never keeps holds = absurd never
step-sound history Undo NothingToRedo next never keeps holds = absurd never
step-sound history Redo Redone next (some, is) keeps holds = subst HoldsSoundDisks (sym is) (holds-moved history (redone_history history) refl some holds)
step-sound history Redo NothingToRedo next (nothing, is) keeps holds = subst HoldsSoundDisks (sym is) holds
step-sound history Redo (Accepted reply) next never keeps holds = absurd never
step-sound history Redo (Refused refusal) next never keeps holds = absurd never
step-sound history Redo Undone next never keeps holds = absurd never
step-sound history Redo NothingToUndo next never keeps holds = absurd never
