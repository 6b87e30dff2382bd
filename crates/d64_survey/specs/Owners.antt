-- The owners of the blocks of an image: the map, the directory, and the files of the slots.
use Rattle.std.specs.Prelude.{ℕ, ◌&&◌, nat_lt, nat_eq, not, Bool, List, [], ◌∷◌, ◌++◌, map, filter, count_by, length, Option}
use Rattle.std.specs.List.{flat_map, range_with_len, slice_get}
use Rattle.std.specs.Option.{option_map_or}
use Rattle.std.specs.FinSet as set
use Rattle.d64_image.specs.Disk.{Disk, Bytes, Blocks}
use Rattle.d64_map.specs.Map.{map_block, free_blocks}
use Rattle.d64_files.specs.Directory.{slots_in, numbered_slots}
use Rattle.d64_files.specs.Ownership.{roots}
use Rattle.d64_files.specs.Slot.{name_of}
use Rattle.d64_survey.specs.Way.{way}
use Rattle.d64_survey.specs.declared.owner.Part.{Part}
use Rattle.d64_survey.specs.declared.owner.Part.TheVariants.{Data, Side}
use Rattle.d64_survey.specs.declared.owner.Owner.{Owner}
use Rattle.d64_survey.specs.declared.owner.Owner.TheVariants.{Map, Directory, File}
use Rattle.d64_survey.specs.declared.way_end.WayEnd.{WayEnd}

-- the directory's way: that from track 18, sector 1
abbrev pub directory_way : Disk → Blocks × WayEnd
directory_way image = way image (18, 1)

-- the slots of an image: those of the blocks of the directory's way, however it ends
abbrev pub way_slots : Disk → List Bytes
way_slots image = slots_in image (directory_way image).0

-- the name in a slot of the directory; empty if there is no such slot
abbrev pub slot_name : Disk → ℕ → Bytes
slot_name image slot = option_map_or name_of (slice_get (way_slots image) slot) []

-- the pair from which a part of a slot's file leads; None if the slot has no such part
abbrev pub pair_of : Part → Bytes → Option (ℕ × ℕ)
pair_of Data cell = slice_get (roots cell) 0
pair_of Side cell = slice_get (roots cell) 1

-- the blocks of the way from a pair, if there is one
abbrev pub blocks_from : Disk → Option (ℕ × ℕ) → Blocks
blocks_from image pair = option_map_or (λ pair. (way image pair).0) pair []

-- blocks, each with this owner
abbrev pub owned_as : Owner → Blocks → List (ℕ × Owner)
owned_as owner blocks = map (λ block. (block, owner)) blocks

-- the blocks that a part of a slot's file owns
abbrev pub part_owners : Disk → ℕ × Bytes → Part → List (ℕ × Owner)
part_owners image slot part = owned_as (File slot.0 part) (blocks_from image (pair_of part slot.1))

-- the blocks that a slot's file owns: its data and then its side blocks
abbrev pub slot_owners : Disk → ℕ × Bytes → List (ℕ × Owner)
slot_owners image slot = part_owners image slot Data ++ part_owners image slot Side

-- each block with an owner, and the owner: first the map's block, then the directory's way, and
-- then the files by their slots
unfoldable pub owners : Disk → List (ℕ × Owner)
owners image = (map_block, Map) ∷ (owned_as Directory (directory_way image).0 ++ flat_map (slot_owners image) (numbered_slots (way_slots image)))

-- the blocks with an owner, each once for each of its owners
abbrev pub blocks_owned : Disk → Blocks
blocks_owned image = map (λ (owned : ℕ × Owner). owned.0) (owners image)

-- the owners of a block
abbrev pub owners_of : Disk → ℕ → List Owner
owners_of image block = map (λ (owned : ℕ × Owner). owned.1) (filter (λ (owned : ℕ × Owner). nat_eq block owned.0) (owners image))

-- whether a block has an owner
abbrev pub is_owned : Disk → ℕ → Bool
is_owned image block = nat_lt 0 (length (owners_of image block))

-- whether a block has more than one owner
abbrev pub is_shared : Disk → ℕ → Bool
is_shared image block = nat_lt 1 (length (owners_of image block))

-- whether a block has no owner and the map doesn't mark it free
abbrev pub is_unowned : Disk → ℕ → Bool
is_unowned image block = not (is_owned image block) && not (set.contains (free_blocks image) block)

-- how many blocks of the image are such
unfoldable pub unowned_count : Disk → ℕ
unowned_count image = count_by (is_unowned image) (range_with_len 0 (length image))
