-- What is printed of an orphan as JSON.
use Rattle.std.specs.Prelude.{List, [], ◌∷◌, ◌++◌, option_map, Option, Some, None, codes}
use Rattle.json.specs.Json.{null, string}
use Rattle.d64_image.specs.Block.{pair_at}
use Rattle.d64_leftovers.specs.Orphans.{OrphanRowView}
use Rattle.d64_leftovers.specs.declared.orphan_row.OldSlot.{OldSlot}
use Rattle.out_json_csv.specs.Values.{Field, array_of, numeral, numeral_or_null}
use Rattle.out_json_csv.specs.Pairs.{pair_field}
use Rattle.out_files.specs.FileObject.{name_members, type_members, way_members, content_members}

-- the name, and the field that it is in; null if there is no old slot
abbrev pub old_name_members : Option OldSlot → List Field
old_name_members None = (codes "name", null) ∷ (codes "field", null) ∷ []
old_name_members (Some old) = name_members old.field

-- the kind, and the type byte with what it says
abbrev pub old_type_members : Option OldSlot → List Field
old_type_members None = (codes "kind", null) ∷ (codes "type", null) ∷ (codes "closed", null) ∷ (codes "locked", null) ∷ []
old_type_members (Some old) = type_members (Some old.kind) old.type_byte old.closed old.locked

-- the shown size, where an old slot has one, the first block, and no length of a record
abbrev pub orphan_entry_members : OrphanRowView → List Field
orphan_entry_members row =
    (codes "size", numeral_or_null (option_map (λ (old : OldSlot). old.size) row.old)) ∷ (codes "first", string (pair_field (pair_at row.first))) ∷ (codes "record", null) ∷ []

-- that it isn't known whether it is whole, no reasons and no conditions, and how many of its blocks
-- have a read error
abbrev pub orphan_state_members : OrphanRowView → List Field
orphan_state_members row = (codes "whole", null) ∷ (codes "why", array_of []) ∷ (codes "conditions", array_of []) ∷ (codes "read_errors", numeral row.read_errors) ∷ []

-- the members of an orphan, but for the image and the slot
unfoldable pub orphan_members : OrphanRowView → List Field
orphan_members row =
    old_name_members row.old
    ++ (old_type_members row.old
    ++ (orphan_entry_members row
    ++ (way_members (Some row.blocks) None
    ++ (content_members row.content
    ++ orphan_state_members row))))
