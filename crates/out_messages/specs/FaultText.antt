-- The faults of an image and its read errors, in words.
use Rattle.std.specs.Prelude.{ℕ, ◌==◌, Bool, true, false, if◌then◌else◌, List, [], ◌++◌, length, Option, codes, decimal}
use Rattle.std.specs.Option.{option_map_or}
use Rattle.d64_image.specs.Disk.{Disk}
use Rattle.d64_survey.specs.Dump.{drive_status}
use Rattle.d64_survey.specs.Owners.{owners_of}
use Rattle.d64_survey.specs.declared.fault.LastBlock.{LastBlock}
use Rattle.d64_survey.specs.declared.fault.LastBlock.TheVariants.{Missing, Block}
use Rattle.d64_survey.specs.declared.fault.Fault.{Fault}
use Rattle.d64_survey.specs.declared.fault.Fault.TheVariants.{WrongCount, BrokenDirectory, UnknownKind, BrokenFile, Shared, MarkedFree}
use Rattle.d64_survey.specs.declared.read_error.ReadError.{ReadError}
use Rattle.d64_survey.specs.declared.way_end.WayEnd.{WayEnd}
use Rattle.d64_survey.specs.declared.way_end.WayEnd.TheVariants.{End, Off, Loop}
use Rattle.d64_survey.specs.declared.owner.Part.{Part}
use Rattle.d64_survey.specs.declared.owner.Part.TheVariants.{Data, Side}
use Rattle.out_messages.specs.Words.{counted_text, pair_text, block_text}
use Rattle.out_messages.specs.OwnerText.{file_part, block_owners}

-- the last block of a chain, or what names its first block if the chain has none
unfoldable pub last_text : LastBlock → List ℕ
last_text Missing = codes "its first block"
last_text (Block block) = block_text block

-- the name for a part of a file is a plural if it begins with the side sectors
abbrev pub are_many : Part → Bool
are_many Data = false
are_many Side = true

-- the verb for how a chain ends, in the singular or the plural
abbrev pub breaks_text : Bool → List ℕ
breaks_text many = if many then codes " break off: " else codes " breaks off: "

abbrev pub loops_text : Bool → List ℕ
loops_text many = if many then codes " loop: " else codes " loops: "

abbrev pub ends_text : Bool → List ℕ
ends_text many = if many then codes " are whole" else codes " is whole"

-- a chain leads off the disk
unfoldable pub off_text : Bool → LastBlock → ℕ × ℕ → List ℕ
off_text many at pair = breaks_text many ++ (last_text at ++ (codes " leads to " ++ (pair_text pair ++ codes ", which is not on the disk")))

-- a chain leads back to a block of its own
unfoldable pub loop_text : Bool → LastBlock → ℕ × ℕ → List ℕ
loop_text many at pair = loops_text many ++ (last_text at ++ (codes " leads back to " ++ pair_text pair))

-- how a chain ends that is not whole; a whole chain is no fault
abbrev pub end_text : Bool → LastBlock → WayEnd → List ℕ
end_text many at End = ends_text many
end_text many at (Off track sector) = off_text many at (track, sector)
end_text many at (Loop track sector) = loop_text many at (track, sector)

-- the map's count of a track, and what it marks there
unfoldable pub count_text : ℕ → ℕ → ℕ → List ℕ
count_text track count marked =
    codes "track " ++ (decimal track ++ (codes ": the map counts " ++ (counted_text count (codes "free block") ++ (codes " and marks " ++ decimal marked))))

-- that the type byte of a slot is of no kind
unfoldable pub wrong_kind_text : Disk → ℕ → ℕ → List ℕ
wrong_kind_text image slot type = file_part image slot Data ++ (codes " has the type byte " ++ (decimal type ++ codes ", which is not a file type"))

-- a block, this text, and the owners of the block
abbrev pub owned_text : Disk → ℕ → List ℕ → List ℕ
owned_text image block words = block_text block ++ (words ++ block_owners image block)

-- a fault
unfoldable pub fault_text : Disk → Fault → List ℕ
fault_text image (WrongCount track count marked) = count_text track count marked
fault_text image (BrokenDirectory at end) = codes "the directory" ++ end_text false at end
fault_text image (UnknownKind slot type) = wrong_kind_text image slot type
fault_text image (BrokenFile slot part at end) = file_part image slot part ++ end_text (are_many part) at end
fault_text image (Shared block) = owned_text image block (codes " is shared by ")
fault_text image (MarkedFree block) = owned_text image block (codes " is marked free, but belongs to ")

-- the drive's status for a read code, if it has one
unfoldable pub drive_status_text : Option ℕ → List ℕ
drive_status_text status = option_map_or (λ number. codes ", drive error " ++ decimal number) status []

-- the owners of a block, if it has any
unfoldable pub belonging_text : Disk → ℕ → List ℕ
belonging_text image block =
    if length (owners_of image block) == 0 then codes ", belongs to no file" else codes ", belongs to " ++ block_owners image block

-- a read error
unfoldable pub read_error_text : Disk → ReadError → List ℕ
read_error_text image error =
    block_text error.block ++ (codes " could not be read: code " ++ (decimal error.code ++ (drive_status_text (drive_status error.code) ++ belonging_text image error.block)))
