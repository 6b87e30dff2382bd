-- What is printed of an orphan as CSV.
use Rattle.std.specs.Prelude.{ℕ, List, [], ◌∷◌, ◌++◌, option_map, Option, Some, None, decimal}
use Rattle.d64_image.specs.Block.{pair_at}
use Rattle.d64_leftovers.specs.Orphans.{OrphanRowView}
use Rattle.d64_leftovers.specs.declared.orphan_row.OldSlot.{OldSlot}
use Rattle.out_json_csv.specs.Pairs.{pair_field}
use Rattle.out_files.specs.FileRow.{decimal_or_empty, name_fields, type_fields, way_fields, content_fields}

-- the name, and the field that it is in; empty if there is no old slot
abbrev pub old_name_fields : Option OldSlot → List (List ℕ)
old_name_fields None = [] ∷ [] ∷ []
old_name_fields (Some old) = name_fields old.field

-- the kind, and the type byte with what it says
abbrev pub old_type_fields : Option OldSlot → List (List ℕ)
old_type_fields None = [] ∷ [] ∷ [] ∷ [] ∷ []
old_type_fields (Some old) = type_fields (Some old.kind) old.type_byte old.closed old.locked

-- the shown size, where an old slot has one, the first block, and no length of a record
abbrev pub orphan_entry_fields : OrphanRowView → List (List ℕ)
orphan_entry_fields row = decimal_or_empty (option_map (λ (old : OldSlot). old.size) row.old) ∷ pair_field (pair_at row.first) ∷ [] ∷ []

-- that it isn't known whether it is whole, no reasons and no conditions, and how many of its blocks
-- have a read error
abbrev pub orphan_state_fields : OrphanRowView → List (List ℕ)
orphan_state_fields row = [] ∷ [] ∷ [] ∷ decimal row.read_errors ∷ []

-- the fields of an orphan, but for the image and the slot
unfoldable pub orphan_fields : OrphanRowView → List (List ℕ)
orphan_fields row =
    old_name_fields row.old
    ++ (old_type_fields row.old
    ++ (orphan_entry_fields row
    ++ (way_fields (Some row.blocks) None
    ++ (content_fields row.content
    ++ orphan_state_fields row))))
