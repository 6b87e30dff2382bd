-- The faults of an image: the places where the conditions of a sound image fail.
use Rattle.std.specs.Prelude.{ℕ, ◌-◌, ◌==◌, ◌&&◌, not, Bool, if◌then◌else◌, List, [], ◌∷◌, ◌++◌, length, Option, Some, None}
use Rattle.std.specs.List.{flat_map, range_with_len, slice_get}
use Rattle.std.specs.Option.{option_map_or}
use Rattle.std.specs.FinSet as set
use Rattle.d64_image.specs.Disk.{Disk, Bytes, Blocks}
use Rattle.d64_image.specs.Image.{tracks_of}
use Rattle.d64_map.specs.Map.{blocks, count_of, free_blocks}
use Rattle.d64_map.specs.Track.{members_on}
use Rattle.d64_files.specs.Directory.{numbered_slots}
use Rattle.d64_files.specs.Slot.{type_byte, has_kind}
use Rattle.d64_survey.specs.Way.{way, is_whole}
use Rattle.d64_survey.specs.Owners.{directory_way, way_slots, pair_of, is_owned, is_shared}
use Rattle.d64_survey.specs.declared.fault.LastBlock.{LastBlock}
use Rattle.d64_survey.specs.declared.fault.LastBlock.TheVariants.{Missing, Block}
use Rattle.d64_survey.specs.declared.fault.Fault.{Fault}
use Rattle.d64_survey.specs.declared.fault.Fault.TheVariants.{WrongCount, BrokenDirectory, UnknownKind, BrokenFile, Shared, MarkedFree}
use Rattle.d64_survey.specs.declared.owner.Part.{Part}
use Rattle.d64_survey.specs.declared.owner.Part.TheVariants.{Data, Side}

-- the number of the condition that fails, from 1 to 6
abbrev pub number : Fault → ℕ
number (WrongCount track count marked) = 1
number (BrokenDirectory at end) = 2
number (UnknownKind slot type) = 3
number (BrokenFile slot part at end) = 4
number (Shared block) = 5
number (MarkedFree block) = 6

-- a list of the fault if there is one, and else the empty list
abbrev pub where_so : Bool → Fault → List Fault
where_so there fault = if there then fault ∷ [] else []

-- the last block of a way, if it has one
abbrev pub last_from : Option ℕ → LastBlock
last_from None = Missing
last_from (Some block) = Block block

-- the last of the blocks of a way
abbrev pub last_of : Blocks → LastBlock
last_of blocks = last_from (slice_get blocks (length blocks - 1))

-- a fault if a track's count byte isn't the number of its sectors that the map marks free
abbrev pub count_fault : Disk → ℕ → List Fault
count_fault image track =
    where_so (not (count_of image track == members_on (free_blocks image) track)) (WrongCount track (count_of image track) (members_on (free_blocks image) track))

-- condition 1: a fault for each track whose count is wrong
abbrev pub count_faults : Disk → List Fault
count_faults image = flat_map (count_fault image) (range_with_len 1 (tracks_of (length image)))

-- condition 2: a fault if the directory's way doesn't end after a last block
abbrev pub directory_faults : Disk → List Fault
directory_faults image = where_so (not (is_whole (directory_way image).1)) (BrokenDirectory (last_of (directory_way image).0) (directory_way image).1)

-- a fault if a slot's type byte has no kind; such a slot is used
abbrev pub kind_fault : ℕ × Bytes → List Fault
kind_fault slot = where_so (not (has_kind slot.1)) (UnknownKind slot.0 (type_byte slot.1))

-- condition 3: a fault for each slot without a kind
abbrev pub kind_faults : Disk → List Fault
kind_faults image = flat_map kind_fault (numbered_slots (way_slots image))

-- a fault if the way from a pair, of a part of a slot's file, doesn't end after a last block
abbrev pub way_fault : Disk → ℕ → Part → ℕ × ℕ → List Fault
way_fault image slot part pair = where_so (not (is_whole (way image pair).1)) (BrokenFile slot part (last_of (way image pair).0) (way image pair).1)

-- a fault if a part of a slot's file has such a way
abbrev pub part_fault : Disk → ℕ × Bytes → Part → List Fault
part_fault image slot part = option_map_or (way_fault image slot.0 part) (pair_of part slot.1) []

-- condition 4: a fault for each such part, a slot's data before its side blocks
abbrev pub file_faults : Disk → List Fault
file_faults image = flat_map (λ slot. part_fault image slot Data ++ part_fault image slot Side) (numbered_slots (way_slots image))

-- condition 5: a fault for each block with more than one owner
abbrev pub shared_faults : Disk → List Fault
shared_faults image = flat_map (λ block. where_so (is_shared image block) (Shared block)) blocks

-- condition 6: a fault for each block that has an owner and that the map marks free
abbrev pub free_faults : Disk → List Fault
free_faults image = flat_map (λ block. where_so (is_owned image block && set.contains (free_blocks image) block) (MarkedFree block)) blocks

-- the faults of an image, by their numbers
unfoldable pub faults : Disk → List Fault
faults image =
    count_faults image ++ (directory_faults image ++ (kind_faults image ++ (file_faults image ++ (shared_faults image ++ free_faults image))))
