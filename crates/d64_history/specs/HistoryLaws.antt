-- What follows from the definitions of histories: undo and redo go through each image again.
use Rattle.std.specs.Prelude.{◌≡◌, ℕ, ◌+◌, ◌-◌, ◌<◌, ◌≤◌, List, ◌∷◌, [], length, fold, slice_index_or}
use Rattle.std.specs.Fn.{iterate}
use Rattle.d64_image.specs.Disk.{Disk}
use Rattle.d64_history.specs.History.{History, IsHistory, present_image, extended_history, undone_history, redone_history}

-- undo after an accepted command gives the image from before it
abbrev pub UndoAfterCommand : Type 0
UndoAfterCommand =
    (history : History) (image : Disk) → IsHistory history → present_image (undone_history (extended_history history image)) ≡ present_image history

-- redo reverses an undo that was possible, and undo reverses a redo
pub record Inverse (history : History) : Type 0 where
  pub redo : 0 < history.cursor → redone_history (undone_history history) ≡ history
  pub undo : undone_history (redone_history history) ≡ history

-- redo after undo gives back the history, and so the image
abbrev pub RedoAfterUndo : Type 0
RedoAfterUndo = (history : History) → Inverse history

-- the history after accepted commands, each with its image
abbrev pub added_all : History → List Disk → History
added_all history images = fold extended_history history images

-- the history after undos
abbrev pub undone_by : ℕ → History → History
undone_by count history = iterate undone_history count history

-- the history after redos
abbrev pub redone_by : ℕ → History → History
redone_by count history = iterate redone_history count history

-- after accepted commands, as many undos as commands are possible, and then as many redos as undos;
-- each undo, and each redo after it, gives the image that was present at that point while the
-- commands ran
pub record Retraces (history : History) (images : List Disk) (undos : ℕ) : Type 0 where
  pub can_undo : undos < length images → 0 < (undone_by undos (added_all history images)).cursor
  pub can_redo : (redos : ℕ) → redos < undos
      → (redone_by redos (undone_by undos (added_all history images))).cursor + 1
      < length (redone_by redos (undone_by undos (added_all history images))).images
  pub image : (redos : ℕ) → redos ≤ undos
      → present_image (redone_by redos (undone_by undos (added_all history images)))
      ≡ slice_index_or (present_image history ∷ images) (length images - undos + redos) []

-- undos after accepted commands, and then redos, go through each image again
abbrev pub Retraced : Type 0
Retraced =
    (history : History) (images : List Disk) (undos : ℕ)
    → IsHistory history → undos ≤ length images → Retraces history images undos
