-- Who owns a block, in words.
use Rattle.std.specs.Prelude.{ℕ, suc, ◌+◌, ◌-◌, ◌==◌, nat_lt, if◌then◌else◌, List, [], ◌∷◌, ◌++◌, length, take, codes, decimal}
use Rattle.d64_image.specs.Disk.{Disk}
use Rattle.d64_survey.specs.Owners.{owners_of}
use Rattle.d64_survey.specs.declared.owner.Part.{Part}
use Rattle.d64_survey.specs.declared.owner.Part.TheVariants.{Data, Side}
use Rattle.d64_survey.specs.declared.owner.Owner.{Owner}
use Rattle.d64_survey.specs.declared.owner.Owner.TheVariants.{Map, Directory, File}
use Rattle.d64_survey.specs.Owners.{slot_name}
use Rattle.out_messages.specs.Names.{quoted_name}

-- what comes before the name of a file to name this part of it
abbrev pub part_text : Part → List ℕ
part_text Data = []
part_text Side = codes "the side sectors of "

-- a part of the file of a slot
unfoldable pub file_part : Disk → ℕ → Part → List ℕ
file_part image slot part = part_text part ++ quoted_name (slot_name image slot)

-- an owner
abbrev pub owner_text : Disk → Owner → List ℕ
owner_text image Map = codes "the map"
owner_text image Directory = codes "the directory"
owner_text image (File slot part) = file_part image slot part

-- what comes before the item at a place in a list of this length
abbrev pub separator : ℕ → ℕ → List ℕ
separator count place = if place == 0 then [] else (if place + 1 == count then codes " and " else codes ", ")

-- owners from a place on, in a list of this length
unfoldable pub owners_from : Disk → ℕ → ℕ → List Owner → List ℕ
owners_from image count place [] = []
owners_from image count place (owner ∷ owners) = separator count place ++ (owner_text image owner ++ owners_from image count (suc place) owners)

-- how many owners there are beside the eight that are named, if there are more
abbrev pub more_text : ℕ → List ℕ
more_text count = if nat_lt 8 count then codes " and " ++ (decimal (count - 8) ++ codes " more") else []

-- owners, of which at most eight are named
abbrev pub owner_list : Disk → List Owner → List ℕ
owner_list image owners = owners_from image (length owners) 0 (take 8 owners) ++ more_text (length owners)

-- the owners of a block
unfoldable pub block_owners : Disk → ℕ → List ℕ
block_owners image block = owner_list image (owners_of image block)
