-- The names on a disk as JSON.
use Rattle.std.specs.Prelude.{List, [], ◌∷◌, codes}
use Rattle.json.specs.Json.{Json, string}
use Rattle.d64_image.specs.Disk.{Disk, Bytes}
use Rattle.d64_files.specs.DiskHeader.{disk_dos, disk_id, disk_name}
use Rattle.petscii.specs.Spelling.{spelling}
use Rattle.out_json_csv.specs.Values.{Field}

-- a name in text form
abbrev pub name_value : Bytes → Json
name_value name = string (spelling name)

-- the disk's name, its id, and its DOS version
abbrev pub label_members : Disk → List Field
label_members image = (codes "name", name_value (disk_name image)) ∷ (codes "id", name_value (disk_id image)) ∷ (codes "dos", name_value (disk_dos image)) ∷ []
