-- The owners of a block as JSON.
use Rattle.std.specs.Prelude.{ℕ, ◌-◌, nat_lt, if◌then◌else◌, List, [], ◌∷◌, length, map, take, codes}
use Rattle.json.specs.Json.{Json, string}
use Rattle.d64_image.specs.Disk.{Disk}
use Rattle.d64_survey.specs.declared.owner.Part.{Part}
use Rattle.d64_survey.specs.declared.owner.Part.TheVariants.{Data, Side}
use Rattle.d64_survey.specs.declared.owner.Owner.{Owner}
use Rattle.d64_survey.specs.declared.owner.Owner.TheVariants.{Map, Directory, File}
use Rattle.out_json_csv.specs.Values.{Field, object_of, array_of, numeral}
use Rattle.d64_survey.specs.Owners.{slot_name}
use Rattle.out_json_csv.specs.Names.{name_value}

-- the word for a part of a file
abbrev pub part_word : Part → List ℕ
part_word Data = codes "data"
part_word Side = codes "side"

-- the word for an owner
abbrev pub owner_word : Owner → List ℕ
owner_word Map = codes "map"
owner_word Directory = codes "directory"
owner_word (File slot part) = part_word part

-- a slot and its name
abbrev pub slot_members : Disk → ℕ → List Field
slot_members image slot = (codes "slot", numeral slot) ∷ (codes "name", name_value (slot_name image slot)) ∷ []

-- the slot of a file that owns a block; no members for the map and the directory
abbrev pub owner_file : Disk → Owner → List Field
owner_file image Map = []
owner_file image Directory = []
owner_file image (File slot part) = slot_members image slot

-- an owner
abbrev pub owner_object : Disk → Owner → Json
owner_object image owner = object_of ((codes "what", string (owner_word owner)) ∷ owner_file image owner)

-- how many owners there are beyond eight; no members if there are no more
abbrev pub more_than_eight : ℕ → List Field
more_than_eight count = if nat_lt 8 count then (codes "more", numeral (count - 8)) ∷ [] else []

-- the first eight of the owners, and how many more there are
abbrev pub owner_members : Disk → List Owner → List Field
owner_members image owners = (codes "owners", array_of (map (owner_object image) (take 8 owners))) ∷ more_than_eight (length owners)
