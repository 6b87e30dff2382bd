-- Reading a file by its name, and why it can't be read.
use Rattle.std.specs.Prelude.{◌≡◌, ℕ, [], slice_get, Option, Some, None, option_map}
use Rattle.std.specs.Option.{option_or, option_map_or}
use Rattle.d64_image.specs.Disk.{Disk, Bytes}
use Rattle.d64_files.specs.Directory.{slots, first_named}
use Rattle.d64_files.specs.FirstFault.{first_fault, reading_conditions}
use Rattle.d64_files.specs.Reading.{slot_refusal, content_at}
use Rattle.d64_files.specs.Slot.{name_of}
use Rattle.d64_dos.specs.Refusal.{of_read_fault}
use Rattle.d64_dos.specs.declared.refusal.Refusal.{Refusal}
use Rattle.d64_dos.specs.declared.refusal.Refusal.TheVariants.{NotFound, Directory}

-- why a directory can't be read
abbrev pub directory_refusal : Disk → Option Refusal
directory_refusal image = option_map Directory (first_fault image reading_conditions)

-- why a found slot can't be read
abbrev pub found_refusal : Disk → Option ℕ → Option Refusal
found_refusal image None = Some NotFound
found_refusal image (Some slot) = option_map of_read_fault (slot_refusal image (slice_get (slots image) slot))

-- why a file can't be read by a pattern: a fault of the directory, then one of the first used slot
-- that it matches
unfoldable pub read_refusal : Disk → Bytes → Option Refusal
read_refusal image pattern = option_or (directory_refusal image) (found_refusal image (first_named pattern (slots image)))

-- the name in a slot; nothing if there is no such slot
abbrev pub name_at : Disk → ℕ → Bytes
name_at image slot = option_map_or name_of (slice_get (slots image) slot) []

-- a file that was read: the name and the content of the first used slot whose name the pattern
-- matches
pub record IsReadBack (image : Disk) (pattern name bytes : Bytes) : Type 0 where
  pub slot : ℕ
  pub found : first_named pattern (slots image) ≡ Some slot
  pub is_name : name ≡ name_at image slot
  pub is_content : bytes ≡ content_at image slot
