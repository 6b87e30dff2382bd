-- The directory of an image, its slots, and the conditions of a sound image.
use Rattle.std.specs.Prelude.{◌≢◌, ℕ, ◌<◌, ◌≤◌, ◌&&◌, nat_eq, Bool, List, [], ◌∷◌, ◌++◌, All, position, map, flat_map, bytes_eq, Option}
use Rattle.std.specs.List.{enumerate_from, list_any, IsDistinct, slice_get}
use Rattle.std.specs.Option.{option_map_or}
use Rattle.d64_image.specs.Disk.{Disk, Bytes, Blocks}
use Rattle.d64_image.specs.Image.{sector_at}
use Rattle.d64_map.specs.Map.{map_block, CountsFit}
use Rattle.d64_files.specs.Chain.{chain_from}
use Rattle.d64_files.specs.Ownership.{owned_by, HasItsChains, NoneIsFree}
use Rattle.d64_files.specs.Pattern.{matches}
use Rattle.d64_files.specs.Slot.{EntryView, cells, HasKind, is_used, name_of}
use Rattle.d64_files.specs.declared.dir_fault.DirFault.{DirFault}
use Rattle.d64_files.specs.declared.dir_fault.DirFault.TheVariants.{WrongCounts, NoDirectory, UnknownKind, NoChain, CrossLinked, MarkedFree}

-- the directory's first block: track 18, sector 1
abbrev pub directory_start : ℕ
directory_start = 358

-- its blocks: the chain from track 18, sector 1
abbrev pub directory : Disk → Blocks
directory image = chain_from image 18 1

-- the slots of blocks, in order
abbrev pub slots_in : Disk → Blocks → List Bytes
slots_in image blocks = flat_map (λ block. cells (sector_at image block)) blocks

abbrev pub slots : Disk → List Bytes
slots image = slots_in image (directory image)

-- the map's block, the directory's, and those of each slot
unfoldable pub owned_blocks : Disk → Blocks
owned_blocks image = map_block ∷ (directory image ++ flat_map (owned_by image) (slots image))

-- the blocks owned by the slot of a number
abbrev pub slot_owns : Disk → ℕ → Blocks
slot_owns image slot = option_map_or (owned_by image) (slice_get (slots image) slot) []

abbrev pub numbered_slots : List Bytes → List (ℕ × Bytes)
numbered_slots cells = enumerate_from 0 cells

-- the entry of a numbered slot of an image
abbrev pub entry_of : Disk → ℕ × Bytes → EntryView
entry_of image slot = record { slot = slot.0; bytes = slot.1; image = image }

-- the entries of slots of an image
abbrev pub entries : Disk → List Bytes → List EntryView
entries image cells = map (entry_of image) (numbered_slots cells)

-- a pattern matches the name of a used slot
abbrev pub is_named : Bytes → Bytes → Bool
is_named pattern cell = is_used cell && matches pattern (name_of cell)

-- the number of the first such slot
abbrev pub first_named : Bytes → List Bytes → Option ℕ
first_named pattern cells = position (is_named pattern) cells

-- a used slot has exactly this name
abbrev pub has_name : Bytes → Bytes → Bool
has_name name cell = is_used cell && bytes_eq (name_of cell) name

abbrev pub is_name_taken : Bytes → List Bytes → Bool
is_name_taken name cells = list_any (has_name name) cells

abbrev pub condition_number : DirFault → ℕ
condition_number WrongCounts = 1
condition_number NoDirectory = 2
condition_number UnknownKind = 3
condition_number NoChain = 4
condition_number CrossLinked = 5
condition_number MarkedFree = 6

-- an image meets the condition of this fault
abbrev pub Holds : Disk → DirFault → Type 0
Holds image WrongCounts = CountsFit image
Holds image NoDirectory = directory image ≢ []
Holds image UnknownKind = All HasKind (slots image)
Holds image NoChain = All (HasItsChains image) (slots image)
Holds image CrossLinked = IsDistinct nat_eq (owned_blocks image)
Holds image MarkedFree = NoneIsFree image (owned_blocks image)

-- an image meets the conditions with these numbers
abbrev pub AllHold : Disk → ℕ → ℕ → Type 0
AllHold image first last = (fault : DirFault) → first ≤ condition_number fault → condition_number fault ≤ last → Holds image fault

-- of the conditions with these numbers, the fault is that of the first one that an image fails
pub record IsFirstFault (image : Disk) (first last : ℕ) (fault : DirFault) : Type 0 where
  pub not_before : first ≤ condition_number fault
  pub not_after : condition_number fault ≤ last
  pub fails : ¬ (Holds image fault)
  pub others_hold : (other : DirFault) → first ≤ condition_number other → condition_number other < condition_number fault → Holds image other
