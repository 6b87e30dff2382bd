-- What is printed of a deleted file as JSON.
use Rattle.std.specs.Prelude.{◌==◌, false, List, [], ◌∷◌, ◌++◌, map, length, Some, None, codes}
use Rattle.json.specs.Json.{Json, string}
use Rattle.d64_scratched.specs.declared.loss.Loss.{Loss}
use Rattle.d64_leftovers.specs.Deleted.{DeletedRowView}
use Rattle.out_json_csv.specs.Values.{Field, array_of, numeral}
use Rattle.out_files.specs.FileObject.{boolean_or_null, name_members, type_members, entry_members, way_members, content_members}
use Rattle.out_files.specs.LossWords.{loss_word}

-- a reason why a deleted file isn't whole
abbrev pub loss_value : Loss → Json
loss_value loss = string (loss_word loss)

-- whether a deleted file is whole, why not, no conditions, and how many of its blocks have a read
-- error
abbrev pub loss_members : DeletedRowView → List Field
loss_members row =
    (codes "whole", boolean_or_null (Some (length row.losses == 0))) ∷ (codes "why", array_of (map loss_value row.losses)) ∷ (codes "conditions", array_of [])
    ∷ (codes "read_errors", numeral row.read_errors) ∷ []

-- the members of a deleted file, but for the image and the slot: it has no kind any more, its type
-- byte is 0, and it has no side way
unfoldable pub deleted_members : DeletedRowView → List Field
deleted_members row =
    name_members row.field
    ++ (type_members None 0 false false
    ++ (entry_members row.size row.first None
    ++ (way_members (Some row.blocks) None
    ++ (content_members row.content
    ++ loss_members row))))
