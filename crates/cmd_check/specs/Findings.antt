-- Faults and read errors as JSON.
use Rattle.std.specs.Prelude.{ℕ, List, [], ◌∷◌, ◌++◌, codes}
use Rattle.json.specs.Json.{Json, null, string}
use Rattle.d64_image.specs.Disk.{Disk}
use Rattle.d64_survey.specs.Dump.{drive_status}
use Rattle.d64_survey.specs.Faults.{number}
use Rattle.d64_survey.specs.Owners.{owners_of}
use Rattle.d64_survey.specs.declared.fault.LastBlock.{LastBlock}
use Rattle.d64_survey.specs.declared.fault.LastBlock.TheVariants.{Missing, Block}
use Rattle.d64_survey.specs.declared.fault.Fault.{Fault}
use Rattle.d64_survey.specs.declared.fault.Fault.TheVariants.{WrongCount, BrokenDirectory, UnknownKind, BrokenFile, Shared, MarkedFree}
use Rattle.d64_survey.specs.declared.read_error.ReadError.{ReadError}
use Rattle.d64_survey.specs.declared.way_end.WayEnd.{WayEnd}
use Rattle.d64_survey.specs.declared.way_end.WayEnd.TheVariants.{End, Off, Loop}
use Rattle.out_json_csv.specs.Values.{Field, object_of, numeral, numeral_or_null}
use Rattle.out_json_csv.specs.Pairs.{pair_field, block_field}
use Rattle.cmd_check.specs.Owners.{part_word, slot_members, owner_members}

-- the last block of a chain; null if the chain has no block
abbrev pub last_value : LastBlock → Json
last_value Missing = null
last_value (Block block) = string (block_field block)

-- the word for the end of a chain
abbrev pub end_word : WayEnd → List ℕ
end_word End = codes "end"
end_word (Off track sector) = codes "off"
end_word (Loop track sector) = codes "loop"

-- the pair at which a chain ends; null if it ends after a last block, which no chain of a fault
-- does
abbrev pub end_value : WayEnd → Json
end_value End = null
end_value (Off track sector) = string (pair_field (track, sector))
end_value (Loop track sector) = string (pair_field (track, sector))

-- where a chain ends, and how
abbrev pub end_members : LastBlock → WayEnd → List Field
end_members at end = (codes "at", last_value at) ∷ (codes "end", string (end_word end)) ∷ (codes "to", end_value end) ∷ []

-- a block and its owners
abbrev pub block_members : Disk → ℕ → List Field
block_members image block = (codes "block", string (block_field block)) ∷ owner_members image (owners_of image block)

-- what a fault has beside its number
abbrev pub fault_members : Disk → Fault → List Field
fault_members image (WrongCount track count marked) = (codes "track", numeral track) ∷ (codes "count", numeral count) ∷ (codes "marked", numeral marked) ∷ []
fault_members image (BrokenDirectory at end) = end_members at end
fault_members image (UnknownKind slot type) = slot_members image slot ++ (codes "type", numeral type) ∷ []
fault_members image (BrokenFile slot part at end) = slot_members image slot ++ (codes "what", string (part_word part)) ∷ end_members at end
fault_members image (Shared block) = block_members image block
fault_members image (MarkedFree block) = block_members image block

-- a fault
unfoldable pub fault_object : Disk → Fault → Json
fault_object image fault = object_of ((codes "condition", numeral (number fault)) ∷ fault_members image fault)

-- a read error, with the owners of its block, if it has any
unfoldable pub read_error_object : Disk → ReadError → Json
read_error_object image error =
    object_of
    ((codes "block", string (block_field error.block)) ∷ (codes "code", numeral error.code) ∷ (codes "status", numeral_or_null (drive_status error.code))
    ∷ owner_members image (owners_of image error.block))
