-- What is printed of a file, also of a deleted one, as JSON.
use Rattle.std.specs.Prelude.{ℕ, if◌then◌else◌, List, [], ◌∷◌, ◌++◌, codes}
use Rattle.json.specs.Json.{Json, boolean, null}
use Rattle.d64_image.specs.Disk.{Bytes}
use Rattle.d64_leftovers.specs.Rows.{is_deleted, is_orphan}
use Rattle.d64_leftovers.specs.declared.row.ListedRow.{ListedRow}
use Rattle.d64_leftovers.specs.declared.row.ListedRow.TheVariants.{File, Deleted, Orphan}
use Rattle.program_arguments.specs.declared.jobs.Leftovers.{Leftovers}
use Rattle.out_json_csv.specs.Values.{Field, object_of, numeral}
use Rattle.out_json_csv.specs.FailedDumps.{image_member}
use Rattle.out_files.specs.FileObject.{file_members}
use Rattle.out_files.specs.DeletedObject.{deleted_members}
use Rattle.out_files.specs.OrphanObject.{orphan_members}

-- where a file is: the image with this host name, and the slot
abbrev pub place_members : Bytes → ℕ → List Field
place_members name slot = image_member name ∷ (codes "slot", numeral slot) ∷ []

-- an orphan has no slot
abbrev pub orphan_place : Bytes → List Field
orphan_place name = image_member name ∷ (codes "slot", null) ∷ []

-- the members of a row, with its place
unfoldable pub row_members : Bytes → ListedRow → List Field
row_members name (File row) = place_members name row.slot ++ file_members row
row_members name (Deleted row) = place_members name row.slot ++ deleted_members row
row_members name (Orphan row) = orphan_place name ++ orphan_members row

-- whether the file was deleted, where deleted files are wanted, and whether it is an orphan, where
-- those are
abbrev pub leftover_members : Leftovers → ListedRow → List Field
leftover_members leftovers row =
    (if leftovers.deleted then (codes "deleted", boolean (is_deleted row)) ∷ [] else [])
    ++ (if leftovers.orphans then (codes "orphan", boolean (is_orphan row)) ∷ [] else [])

-- what is printed of a row of an image with this host name
unfoldable pub row_object : Leftovers → Bytes → ListedRow → Json
row_object leftovers name row = object_of (row_members name row ++ leftover_members leftovers row)
