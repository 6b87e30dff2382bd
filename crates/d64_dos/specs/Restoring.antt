-- The deleted file that the code finds, by the reasons why a file isn't whole.
use Rattle.std.specs.Prelude.{◌≡◌, ◌<◌, ◌&&◌, ◌==◌, ℕ, not, Bool, List, length, find, Option, None}
use Rattle.std.specs.Option.{option_or}
use Rattle.d64_image.specs.Disk.{Disk, Bytes}
use Rattle.d64_map.specs.Map.{free_blocks}
use Rattle.d64_files.specs.Directory.{slots, entries}
use Rattle.d64_files.specs.Slot.{EntryView}
use Rattle.d64_effects.specs.Undelete.{chain_left}
use Rattle.d64_effects.specs.Write.{blocks_without}
use Rattle.d64_scratched.specs.Scratched.{losses, is_lost}
use Rattle.d64_scratched.specs.declared.loss.Loss.{Loss}
use Rattle.d64_dos.specs.Undelete.{is_scratched_as}
use Rattle.d64_dos.specs.declared.undelete.Restorable.{Restorable}

-- why the file of a numbered slot isn't whole
abbrev pub losses_of : Disk → ℕ × Bytes → List Loss
losses_of image slot = losses image None slot.0 slot.1

-- a scratched slot of this name whose file is whole
abbrev pub is_whole_by : Disk → Bytes → ℕ × Bytes → Bool
is_whole_by image name slot = is_scratched_as name slot.1 && length (losses_of image slot) == 0

-- a scratched slot of this name whose file isn't lost
abbrev pub is_left_by : Disk → Bytes → ℕ × Bytes → Bool
is_left_by image name slot = is_scratched_as name slot.1 && not (is_lost (losses_of image slot))

-- the entry of a directory that comes back under a name, by the reasons that an image gives: the
-- first whose file is whole, else the first whose file isn't lost
abbrev pub entry_back : Disk → Disk → Bytes → Option EntryView
entry_back image directory name =
    option_or (find (λ (entry : EntryView). is_whole_by image name (entry.slot, entry.bytes)) (entries directory (slots directory)))
    (find (λ (entry : EntryView). is_left_by image name (entry.slot, entry.bytes)) (entries directory (slots directory)))

-- the directory has the slot that was found, and the free blocks are those of the map without the
-- blocks of the slot's chain
pub record IsRestorable (image : Disk) (found : Restorable) : Type 0 where
  pub there : found.slot < length (slots image)
  pub free : found.free ≡ blocks_without (free_blocks image) (chain_left image found.slot)
