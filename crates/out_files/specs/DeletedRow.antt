-- What is printed of a deleted file as CSV.
use Rattle.std.specs.Prelude.{ℕ, ◌==◌, false, List, [], ◌∷◌, ◌++◌, length, Some, None, decimal}
use Rattle.d64_leftovers.specs.Deleted.{DeletedRowView}
use Rattle.out_files.specs.FileRow.{truth_or_empty, spaced_texts, name_fields, type_fields, entry_fields, way_fields, content_fields}
use Rattle.out_files.specs.LossWords.{loss_word}

-- whether a deleted file is whole, why not, no conditions, and how many of its blocks have a read
-- error
abbrev pub loss_fields : DeletedRowView → List (List ℕ)
loss_fields row = truth_or_empty (Some (length row.losses == 0)) ∷ spaced_texts loss_word row.losses ∷ [] ∷ decimal row.read_errors ∷ []

-- the fields of a deleted file, but for the image and the slot
unfoldable pub deleted_fields : DeletedRowView → List (List ℕ)
deleted_fields row =
    name_fields row.field
    ++ (type_fields None 0 false false
    ++ (entry_fields row.size row.first None
    ++ (way_fields (Some row.blocks) None
    ++ (content_fields row.content
    ++ loss_fields row))))
