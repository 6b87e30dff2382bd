-- Histories: lists of whole images with a cursor, and how commands, undo and redo change them.
use Rattle.std.specs.Prelude.{ℕ, ◌+◌, ◌-◌, ◌<◌, nat_lt, if◌then◌else◌, Option, Some, None, List, [], ◌∷◌, ◌++◌, length, take, slice_index_or}
use Rattle.d64_image.specs.Disk.{Disk}
use Rattle.d64_image.specs.Image.{differences}
use Rattle.d64_image.specs.Patch.{Kept, changed_blocks}

-- a list of whole images with a cursor
pub record History : Type 0 where
  pub images : List Disk
  pub cursor : ℕ

-- the cursor is at an image
abbrev pub IsHistory : History → Type 0
IsHistory history = history.cursor < length history.images

-- the image at a place, from 0
abbrev pub image_at : History → ℕ → Disk
image_at history place = slice_index_or history.images place []

abbrev pub present_image : History → Disk
present_image history = image_at history history.cursor

-- the history that begins with an image
abbrev pub new_history : Disk → History
new_history image = record { images = image ∷ []; cursor = 0 }

-- a new image in place of all after the cursor, even if nothing changed
abbrev pub extended_history : History → Disk → History
extended_history history image = record {
  images = take (history.cursor + 1) history.images ++ image ∷ [];
  cursor = history.cursor + 1;
}

-- the cursor one image back
abbrev pub undone_history : History → History
undone_history history = record history { cursor = history.cursor - 1 }

-- the cursor one image on
abbrev pub redone_history : History → History
redone_history history = record history { cursor = history.cursor + 1 }

-- in how many blocks the images before and after a record differ; None if there is no such record;
-- records are numbered from 0
abbrev pub record_len : History → ℕ → Option ℕ
record_len history number =
    if nat_lt (number + 1) (length history.images)
    then Some (length (differences (image_at history number) (image_at history (number + 1))))
    else None

-- those blocks, ascending: with their bytes from before the record if it is done, else from after
-- it
abbrev pub record_blocks : History → ℕ → Kept
record_blocks history number =
    if nat_lt number history.cursor
    then changed_blocks (image_at history number) (image_at history (number + 1))
    else changed_blocks (image_at history (number + 1)) (image_at history number)

-- these blocks of a record; None if the history has no such record
abbrev pub record_at : History → ℕ → Option Kept
record_at history number = if nat_lt (number + 1) (length history.images) then Some (record_blocks history number) else None
