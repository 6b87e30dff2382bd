-- What follows from the definition of bringing back a deleted file.
use Rattle.std.specs.Prelude.{◌≡◌, ◌≢◌, ◌==◌, ◌&&◌, not, ℕ, List, [], ◌∷◌, length, false, None, Some}
use Rattle.std.specs.List.{list_any}
use Rattle.d64_image.specs.Disk.{Disk, Bytes}
use Rattle.d64_image.specs.Image.{IsImage}
use Rattle.d64_map.specs.Map.{free_blocks, with_map}
use Rattle.d64_files.specs.Clearing.{closed_type}
use Rattle.d64_files.specs.Directory.{slots, has_name}
use Rattle.d64_files.specs.Slot.{type_byte, is_used, name_of, size_of}
use Rattle.d64_files.specs.declared.kind.Kind.{Kind}
use Rattle.d64_effects.specs.Delete.{scratched_slots}
use Rattle.d64_effects.specs.KeepingLaws.{HasFile}
use Rattle.d64_effects.specs.Laws.{IsWritable}
use Rattle.d64_effects.specs.Undelete.{cell_at, chain_left}
use Rattle.d64_effects.specs.View.{FileView, IsSound, view}
use Rattle.d64_effects.specs.ViewAfter.{file_back}
use Rattle.d64_dos.specs.Change.{Change, Delete, Undelete}
use Rattle.d64_dos.specs.Command.{image_after, refusal_of}
use Rattle.d64_scratched.specs.Scratched.{losses, is_lost}
use Rattle.d64_dos.specs.Undelete.{is_scratched_as, chain_of, is_file_left, is_claimed, slot_to_undelete}

-- the second image has one file more than the first: the one that was left in a slot that wasn't
-- used; each other file keeps its slot, its chain and its content, and there is no other
pub record HasOneFileMore (old new : Disk) (kind : Kind) (slot : ℕ) : Type 0 where
  pub vacant : is_used (cell_at old slot) ≡ false
  pub back : HasFile new slot (file_back old slot kind)
  pub others : (other : ℕ) (file : FileView) → HasFile old other file → HasFile new other file
  pub only : (other : ℕ) (file : FileView) → other ≢ slot → HasFile new other file → HasFile old other file

-- an accepted command on a sound disk brings back one file, in the slot that is chosen
abbrev pub UndeletingAddsOneFile : Type 0
UndeletingAddsOneFile =
    (image : Disk) (name : Bytes) (kind : Kind)
    → IsImage image → IsSound image → refusal_of image (Undelete name kind) ≡ None
    → (slot : ℕ) × (slot_to_undelete image name ≡ Some slot) × HasOneFileMore image (image_after image (Undelete name kind)) kind slot

-- a slot has a closed file of this name and kind, which isn't locked, and as many blocks as it
-- shows; and no other slot, used or scratched, has the name
pub record IsOnlyFileOf (image : Disk) (name : Bytes) (kind : Kind) (slot : ℕ) : Type 0 where
  pub type : type_byte (cell_at image slot) ≡ closed_type kind
  pub size : length (chain_left image slot) ≡ size_of (cell_at image slot)
  pub named : name_of (cell_at image slot) ≡ name
  pub others : (other : ℕ) → other ≢ slot → has_name name (cell_at image other) ≡ false
  pub scratched : list_any (is_scratched_as name) (slots image) ≡ false

-- two commands are accepted one after the other, and leave the disk from before: it shows what it
-- did, and each byte is the same but for the map, which is written anew and marks the same
pub record BringsBack (image : Disk) (delete undelete : Change) : Type 0 where
  pub deleted : refusal_of image delete ≡ None
  pub accepted : refusal_of (image_after image delete) undelete ≡ None
  pub shows : view (image_after (image_after image delete) undelete) ≡ view image
  pub bytes : image_after (image_after image delete) undelete ≡ with_map image (free_blocks image)

-- if patterns delete one such file of a sound disk, an undeletion brings it back
abbrev pub UndeletingUndoesDeleting : Type 0
UndeletingUndoesDeleting =
    (image : Disk) (patterns : List Bytes) (name : Bytes) (kind : Kind) (slot : ℕ)
    → IsImage image → IsSound image → IsWritable kind → scratched_slots image patterns ≡ slot ∷ [] → IsOnlyFileOf image name kind slot
    → BringsBack image (Delete patterns) (Undelete name kind)

-- on a sound disk a file is left if and only if the reasons why it isn't whole don't make it lost,
-- and whole if and only if there are no reasons
abbrev pub ReasonsDecide : Type 0
ReasonsDecide =
    (image : Disk) (slot : ℕ) (cell : Bytes)
    → IsSound image
    → (not (is_lost (losses image None slot cell)) ≡ is_file_left image cell)
    × ((length (losses image None slot cell) == 0) ≡ (is_file_left image cell && not (list_any (is_claimed image slot) (chain_of image cell))))
