-- The table of the owners of all blocks.
use Rattle.std.specs.Prelude.{ℕ, ◌+◌, ◌<◌, ◌≤◌, List, [], ◌++◌, map, take, slice_index_or}
use Rattle.d64_image.specs.declared.block.TheConstants.{BLOCKS}
use Rattle.d64_image.specs.Disk.{Disk}
use Rattle.d64_survey.specs.Owners.{owners_of}
use Rattle.d64_survey.specs.OwnerLists.{OwnersView, AreListed, owners_among}
use Rattle.d64_survey.specs.declared.owner.Part.TheVariants as parts
use Rattle.d64_survey.specs.declared.owner.Owner.{Owner}
use Rattle.d64_survey.specs.declared.owner.Owner.TheVariants as owners
use Rattle.d64_survey.specs.declared.owner_table.Claimant.{Claimant}
use Rattle.d64_survey.specs.declared.owner_table.Claimant.TheVariants.{Map, Directory, Data, Side}
use Rattle.d64_survey.specs.declared.owner_table.Row.{Row}
use Rattle.d64_survey.specs.declared.owner_table.OwnerTable.{OwnerTable}

-- the owner that the table keeps in few bytes
abbrev pub owner_kept : Claimant → Owner
owner_kept Map = owners.Map
owner_kept Directory = owners.Directory
owner_kept (Data slot) = owners.File slot parts.Data
owner_kept (Side slot) = owners.File slot parts.Side

-- the owners that a row has of its block
abbrev pub row_owners : Row → OwnersView
row_owners row = record { shown = map owner_kept (take row.count row.first); count = row.count }

-- the row of a block
abbrev pub owner_row_of : OwnerTable → ℕ → Row
owner_row_of table block = slice_index_or table.rows block (record { first = []; count = 0 })

-- the second table has for each block the owners of the first one, and after them these owners
abbrev pub Adds : OwnerTable → List (ℕ × Owner) → OwnerTable → Type 0
Adds old owned new =
    (block : ℕ)
    → block < BLOCKS
    → (all : List Owner)
    → AreListed all (row_owners (owner_row_of old block))
    → AreListed (all ++ owners_among block owned) (row_owners (owner_row_of new block))

-- the second table counts at most n more owners of each block than the first
abbrev pub AddsFew : OwnerTable → ℕ → OwnerTable → Type 0
AddsFew old count new = (block : ℕ) → (owner_row_of new block).count ≤ (owner_row_of old block).count + count

-- the table counts at most n owners of each block
abbrev pub CountsUpTo : ℕ → OwnerTable → Type 0
CountsUpTo limit table = (block : ℕ) → (owner_row_of table block).count ≤ limit

-- the table has the owners of each block of an image
abbrev pub RecordsOwners : Disk → OwnerTable → Type 0
RecordsOwners image table = (block : ℕ) → block < BLOCKS → AreListed (owners_of image block) (row_owners (owner_row_of table block))
