-- What is printed of a change as JSON.
use Rattle.std.specs.Prelude.{ℕ, List, [], ◌∷◌, ◌++◌, map, Option, Some, None, codes}
use Rattle.std.specs.Option.{option_map_or}
use Rattle.json.specs.Json.{Json, string, null}
use Rattle.d64_image.specs.Disk.{Blocks}
use Rattle.d64_survey.specs.Dump.{DumpView}
use Rattle.d64_inventory.specs.Rows.{FileRowView}
use Rattle.out_json_csv.specs.Pairs.{block_field}
use Rattle.out_json_csv.specs.Values.{Field, object_of, array_of, numeral}
use Rattle.cmd_diff.specs.Changes.{DumpChange, DiskChanged, Added, Removed, FileChanged, BlocksChanged, CodesChanged, disk_object, entry_object}

-- what changed
abbrev pub change_member : List ℕ → Field
change_member word = (codes "change", string word)

-- the value of a file; null if there is no file
abbrev pub entry_value : Option FileRowView → Json
entry_value row = option_map_or entry_object row null

-- the change of a slot
abbrev pub changed_slot_members : ℕ → List ℕ → List Field
changed_slot_members slot word = (codes "slot", numeral slot) ∷ change_member word ∷ []

-- the file before and after
abbrev pub changed_entry_members : Option FileRowView → Option FileRowView → List Field
changed_entry_members old new = (codes "old", entry_value old) ∷ (codes "new", entry_value new) ∷ []

-- a change of a slot, with the file before and after, if there is one
abbrev pub slot_object : ℕ → List ℕ → Option FileRowView → Option FileRowView → Json
slot_object slot word old new = object_of (changed_slot_members slot word ++ changed_entry_members old new)

-- the disk before and after
abbrev pub disk_members : DumpView → DumpView → List Field
disk_members old new = (codes "old", disk_object old) ∷ (codes "new", disk_object new) ∷ []

-- the text of a block's track and sector
abbrev pub block_value : ℕ → Json
block_value block = string (block_field block)

-- blocks
abbrev pub blocks_member : Blocks → Field
blocks_member blocks = (codes "blocks", array_of (map block_value blocks))

-- a change of blocks
abbrev pub blocks_object : List ℕ → Blocks → Json
blocks_object word blocks = object_of (change_member word ∷ blocks_member blocks ∷ [])

-- what is printed of a change
abbrev pub change_object : DumpChange → Json
change_object (DiskChanged old new) = object_of (change_member (codes "disk") ∷ disk_members old new)
change_object (Added new) = slot_object new.slot (codes "added") None (Some new)
change_object (Removed old) = slot_object old.slot (codes "removed") (Some old) None
change_object (FileChanged old new) = slot_object old.slot (codes "changed") (Some old) (Some new)
change_object (BlocksChanged blocks) = blocks_object (codes "blocks") blocks
change_object (CodesChanged blocks) = blocks_object (codes "codes") blocks
