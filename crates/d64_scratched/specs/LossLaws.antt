-- What follows from the definition of what is lost.
use Rattle.std.specs.Prelude.{◌≡◌, ◌≢◌, ℕ, true, false, nat_eq, [], length, All, Option}
use Rattle.std.specs.List.{list_any}
use Rattle.std.specs.FinSet as set
use Rattle.d64_image.specs.Disk.{Disk, Bytes}
use Rattle.d64_map.specs.Map.{map_block, free_blocks}
use Rattle.d64_files.specs.Directory.{numbered_slots}
use Rattle.d64_files.specs.Ownership.{chain_at}
use Rattle.d64_files.specs.Slot.{first_pair, size_of}
use Rattle.d64_survey.specs.Owners.{directory_way, way_slots}
use Rattle.d64_survey.specs.SlotBlocks.{slot_blocks}
use Rattle.d64_scratched.specs.Scratched.{scratched_way, losses, is_lost, is_claimed_below}

-- nothing that is in use has the block: not the map, not the directory, and no file of a slot; the
-- map marks it free; and no scratched slot below this number has it in its way
pub record IsUntouched (image : Disk) (slot block : ℕ) : Type 0 where
  pub by_map : nat_eq block map_block ≡ false
  pub by_directory : list_any (nat_eq block) (directory_way image).0 ≡ false
  pub by_files : All (λ (file : ℕ × Bytes). list_any (nat_eq block) (slot_blocks image file.1) ≡ false) (numbered_slots (way_slots image))
  pub free : set.contains (free_blocks image) block ≡ true
  pub by_scratched : is_claimed_below image slot block ≡ false

-- each block of a scratched file that is whole is untouched
abbrev pub WholeFilesAreUntouched : Type 0
WholeFilesAreUntouched =
    (image : Disk) (codes : Option Bytes) (slot : ℕ) (cell : Bytes)
    → losses image codes slot cell ≡ []
    → All (IsUntouched image slot) (scratched_way image cell).0

-- a file that isn't lost: there is a chain from the first pair of its slot, which is its way, all
-- blocks of it are free, and it has as many as the shown size says
pub record CanBeRestored (image : Disk) (cell : Bytes) : Type 0 where
  pub chain : chain_at image (first_pair cell) ≡ (scratched_way image cell).0
  pub some : chain_at image (first_pair cell) ≢ []
  pub free : All (λ block. set.contains (free_blocks image) block ≡ true) (scratched_way image cell).0
  pub size : length (scratched_way image cell).0 ≡ size_of cell

-- a scratched file that isn't lost can be restored
abbrev pub FilesThatAreNotLostCanBeRestored : Type 0
FilesThatAreNotLostCanBeRestored =
    (image : Disk) (codes : Option Bytes) (slot : ℕ) (cell : Bytes)
    → is_lost (losses image codes slot cell) ≡ false → CanBeRestored image cell
