-- What changed from one dump to another, as a list in order: the disk, then the files, the blocks,
-- and the read codes.
use Rattle.std.specs.Prelude.{ℕ, ◌&&◌, ◌||◌, max, min, not, nat_eq, nat_lt, Bool, if◌then◌else◌, List, [], ◌∷◌, ◌++◌, filter, length, Option, Some, None, is_some, codes}
use Rattle.std.specs.List.{flat_map, range_with_len}
use Rattle.std.specs.Cmp.Lexicographic.{pointwise}
use Rattle.json.specs.Json.{Json, boolean}
use Rattle.d64_image.specs.Disk.{Disk, Bytes, Blocks}
use Rattle.d64_image.specs.Image.{differences, tracks_of}
use Rattle.d64_map.specs.Map.{blocks_free}
use Rattle.d64_survey.specs.Dump.{DumpView, is_read_error}
use Rattle.d64_survey.specs.Owners.{way_slots}
use Rattle.d64_survey.specs.ReadErrors.{code_of}
use Rattle.d64_inventory.specs.Rows.{FileRowView, row_at}
use Rattle.out_json_csv.specs.Names.{label_members}
use Rattle.out_json_csv.specs.Values.{Field, object_of, numeral, line_of}
use Rattle.out_files.specs.FileObject.{file_members}

-- a change from an old dump to a new one
pub data DumpChange : Type 0 where
  -- another label, DOS version, size or number of free blocks
  DiskChanged : DumpView → DumpView → DumpChange
  -- a file in a slot that is used only in the new dump
  Added : FileRowView → DumpChange
  -- a file in a slot that is used only in the old dump
  Removed : FileRowView → DumpChange
  -- another row for the file in a slot that is used in both
  FileChanged : FileRowView → FileRowView → DumpChange
  -- blocks with other bytes, or that one of the dumps does not have
  BlocksChanged : Blocks → DumpChange
  -- blocks with another read code
  CodesChanged : Blocks → DumpChange

-- two objects are printed alike
abbrev pub are_alike : Json → Json → Bool
are_alike old new = pointwise nat_eq (line_of old) (line_of new)

-- how many tracks the disk has, and whether there are read codes
abbrev pub size_members : DumpView → List Field
size_members dump = (codes "tracks", numeral (tracks_of (length dump.image))) ∷ (codes "codes", boolean (is_some dump.codes)) ∷ []

-- how many blocks are free
abbrev pub free_members : Disk → List Field
free_members image = (codes "free", numeral (blocks_free image)) ∷ []

-- what is compared of the disk
unfoldable pub disk_object : DumpView → Json
disk_object dump = object_of (size_members dump ++ (label_members dump.image ++ free_members dump.image))

-- what is compared of a file: its row without the image and the slot
unfoldable pub entry_object : FileRowView → Json
entry_object row = object_of (file_members row)

-- the change of the disk, if its objects differ
abbrev pub disk_change : DumpView → DumpView → List DumpChange
disk_change old new = if are_alike (disk_object old) (disk_object new) then [] else DiskChanged old new ∷ []

-- the change of a slot, by the files that it has in both dumps
abbrev pub slot_change : Option FileRowView → Option FileRowView → List DumpChange
slot_change None None = []
slot_change None (Some new) = Added new ∷ []
slot_change (Some old) None = Removed old ∷ []
slot_change (Some old) (Some new) = if are_alike (entry_object old) (entry_object new) then [] else FileChanged old new ∷ []

-- how many slots the longer one of the directories has
abbrev pub slot_count : DumpView → DumpView → ℕ
slot_count old new = max (length (way_slots old.image)) (length (way_slots new.image))

-- the changes of the first slots, up to this count
unfoldable pub slot_changes : DumpView → DumpView → ℕ → List DumpChange
slot_changes old new count = flat_map (λ slot. slot_change (row_at old slot) (row_at new slot)) (range_with_len 0 count)

-- the blocks whose bytes differ, and those that only the larger one of two images has, ascending
abbrev pub differing_blocks : Disk → Disk → Blocks
differing_blocks old new = if nat_lt (length old) (length new) then differences new old else differences old new

-- a block's read codes differ, and are not both good
abbrev pub has_other_code : Option Bytes → Option Bytes → ℕ → Bool
has_other_code old new block = not (nat_eq (code_of old block) (code_of new block)) && (is_read_error (code_of old block) || is_read_error (code_of new block))

-- the blocks that both dumps have whose read codes differ and are not both good, ascending
unfoldable pub other_codes : DumpView → DumpView → Blocks
other_codes old new = filter (has_other_code old.codes new.codes) (range_with_len 0 (min (length old.image) (length new.image)))

-- these blocks; none if one of the dumps has no codes
unfoldable pub changed_codes : DumpView → DumpView → Blocks
changed_codes old new = if is_some old.codes && is_some new.codes then other_codes old new else []

-- the change of blocks, if there are any
abbrev pub where_any : (Blocks → DumpChange) → Blocks → List DumpChange
where_any change [] = []
where_any change (block ∷ blocks) = change (block ∷ blocks) ∷ []

-- all changes
unfoldable pub changes : DumpView → DumpView → List DumpChange
changes old new =
    disk_change old new
    ++ (slot_changes old new (slot_count old new)
    ++ (where_any BlocksChanged (differing_blocks old.image new.image) ++ where_any CodesChanged (changed_codes old new)))
