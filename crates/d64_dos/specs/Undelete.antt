-- Which deleted file of a name comes back, when the command is refused, and the disk after it.
use Rattle.std.specs.Prelude.{ℕ, nat_lt, nat_eq, ◌==◌, ◌&&◌, not, Bool, if◌then◌else◌, length, take, filter, find, bytes_eq, slice_get, Option, Some, None, is_some, option_map}
use Rattle.std.specs.List.{list_any, list_all}
use Rattle.std.specs.Option.{option_or, option_map_or}
use Rattle.std.specs.FinSet as set
use Rattle.d64_image.specs.Disk.{Disk, Bytes, Blocks}
use Rattle.d64_map.specs.Map.{free_blocks}
use Rattle.d64_files.specs.Directory.{slots, numbered_slots, is_name_taken}
use Rattle.d64_files.specs.Ownership.{chain_at}
use Rattle.d64_files.specs.Slot.{first_pair, name_of, size_of}
use Rattle.d64_files.specs.declared.kind.Kind.{Kind}
use Rattle.d64_effects.specs.Undelete.{undeleted_disk}
use Rattle.d64_effects.specs.View.{View}
use Rattle.d64_effects.specs.ViewAfter.{undeleted_view}
use Rattle.d64_scratched.specs.Scratched.{is_scratched}
use Rattle.d64_dos.specs.FileRefusals.{unsound_refusal}
use Rattle.d64_dos.specs.WriteRefusal.{is_writable}
use Rattle.d64_dos.specs.declared.refusal.Refusal.{Refusal}
use Rattle.d64_dos.specs.declared.refusal.Refusal.TheVariants.{NotFound, Exists, WrongType, Lost}

-- a scratched slot with exactly this name
abbrev pub is_scratched_as : Bytes → Bytes → Bool
is_scratched_as name cell = is_scratched cell && bytes_eq (name_of cell) name

-- a slot's chain
abbrev pub chain_of : Disk → Bytes → Blocks
chain_of image cell = chain_at image (first_pair cell)

-- the file isn't lost: its chain has only free blocks, as many as the slot shows
abbrev pub is_file_left : Disk → Bytes → Bool
is_file_left image cell =
    nat_lt 0 (length (chain_of image cell))
    && (list_all (set.contains (free_blocks image)) (chain_of image cell) && length (chain_of image cell) == size_of cell)

-- a scratched slot before this one leads to the block
abbrev pub is_claimed : Disk → ℕ → ℕ → Bool
is_claimed image slot block = list_any (λ cell. is_scratched cell && list_any (nat_eq block) (chain_of image cell)) (take slot (slots image))

-- the first scratched slot of this name whose file isn't lost and has no claimed block, else the
-- first whose file isn't lost
unfoldable pub slot_to_undelete : Disk → Bytes → Option ℕ
slot_to_undelete image name =
    let left = filter (λ slot. is_scratched_as name slot.1 && is_file_left image slot.1) (numbered_slots (slots image)) in
    option_map (λ slot. slot.0) (option_or (find (λ slot. not (list_any (is_claimed image slot.0) (chain_of image slot.1))) left) (slice_get left 0))

-- the first that applies
unfoldable pub undelete_refusal : Disk → Bytes → Kind → Option Refusal
undelete_refusal image name kind =
    if not (is_writable kind)
    then Some WrongType
    else option_or (unsound_refusal image)
    (if not (list_any (is_scratched_as name) (slots image)) then Some NotFound
    else (if is_name_taken name (slots image) then Some Exists else (if is_some (slot_to_undelete image name) then None else Some Lost)))

-- the image with that file, of this kind
unfoldable pub disk_with_file_back : Disk → Bytes → Kind → Disk
disk_with_file_back image name kind = option_map_or (λ slot. undeleted_disk image slot kind) (slot_to_undelete image name) image

-- what the disk then shows
unfoldable pub view_with_file_back : Disk → View → Bytes → Kind → View
view_with_file_back image old name kind = option_map_or (λ slot. undeleted_view image old slot kind) (slot_to_undelete image name) old
