-- What is printed of a file, also of a deleted one, as CSV.
use Rattle.std.specs.Prelude.{ℕ, if◌then◌else◌, List, [], ◌∷◌, ◌++◌, codes, decimal}
use Rattle.csv.specs.Writing.{row_text, default_writer}
use Rattle.d64_image.specs.Disk.{Bytes}
use Rattle.d64_leftovers.specs.Rows.{is_deleted, is_orphan}
use Rattle.d64_leftovers.specs.declared.row.ListedRow.{ListedRow}
use Rattle.d64_leftovers.specs.declared.row.ListedRow.TheVariants.{File, Deleted, Orphan}
use Rattle.program_arguments.specs.declared.jobs.Leftovers.{Leftovers}
use Rattle.out_json_csv.specs.Rows.{truth_text, host_field}
use Rattle.out_files.specs.FileRow.{file_fields}
use Rattle.out_files.specs.DeletedRow.{deleted_fields}
use Rattle.out_files.specs.OrphanRow.{orphan_fields}

-- the columns before those of leftovers and the error: the keys of the object
abbrev pub file_columns : List (List ℕ)
file_columns =
    codes "image" ∷ codes "slot" ∷ codes "name" ∷ codes "field" ∷ codes "kind" ∷ codes "type" ∷ codes "closed" ∷ codes "locked" ∷ codes "size" ∷ codes "first" ∷ codes "record"
    ∷ codes "blocks" ∷ codes "side" ∷ codes "bytes" ∷ codes "sha256" ∷ codes "whole" ∷ codes "why" ∷ codes "conditions" ∷ codes "read_errors" ∷ []

-- texts in the columns of leftovers that are wanted: of deleted files, and of orphans
abbrev pub leftover_texts : Leftovers → List ℕ → List ℕ → List (List ℕ)
leftover_texts leftovers deleted orphan = (if leftovers.deleted then deleted ∷ [] else []) ++ (if leftovers.orphans then orphan ∷ [] else [])

-- the names of these columns
abbrev pub leftover_columns : Leftovers → List (List ℕ)
leftover_columns leftovers = leftover_texts leftovers (codes "deleted") (codes "orphan")

-- whether the file of a row was deleted, and whether it is an orphan
abbrev pub leftover_fields : Leftovers → ListedRow → List (List ℕ)
leftover_fields leftovers row = leftover_texts leftovers (truth_text (is_deleted row)) (truth_text (is_orphan row))

-- nothing in these columns
abbrev pub leftover_blanks : Leftovers → List (List ℕ)
leftover_blanks leftovers = leftover_texts leftovers [] []

-- fields and an error on a line of their own
abbrev pub row_with : List (List ℕ) → List ℕ → List ℕ
row_with fields error = row_text default_writer (fields ++ error ∷ [])

-- where a file is: the image with this host name, and the slot
abbrev pub place_fields : Bytes → ℕ → List (List ℕ)
place_fields name slot = host_field name ∷ decimal slot ∷ []

-- the fields of a row, with its place
unfoldable pub row_fields : Bytes → ListedRow → List (List ℕ)
row_fields name (File row) = place_fields name row.slot ++ file_fields row
row_fields name (Deleted row) = place_fields name row.slot ++ deleted_fields row
row_fields name (Orphan row) = (host_field name ∷ [] ∷ []) ++ orphan_fields row

-- the row of CSV for a row of an image with this host name; it has no error
unfoldable pub csv_row : Leftovers → Bytes → ListedRow → List ℕ
csv_row leftovers name row = row_with (row_fields name row ++ leftover_fields leftovers row) []

-- the header row
unfoldable pub file_header_row : Leftovers → List ℕ
file_header_row leftovers = row_with (file_columns ++ leftover_columns leftovers) (codes "error")

-- a name, and nothing in each other column but for those of leftovers and the error
abbrev pub name_alone : Bytes → List (List ℕ)
name_alone name = host_field name ∷ [] ∷ [] ∷ [] ∷ [] ∷ [] ∷ [] ∷ [] ∷ [] ∷ [] ∷ [] ∷ [] ∷ [] ∷ [] ∷ [] ∷ [] ∷ [] ∷ [] ∷ [] ∷ []

-- a row with a name and an error alone
unfoldable pub failed_file_row : Leftovers → Bytes → List ℕ → List ℕ
failed_file_row leftovers name error = row_with (name_alone name ++ leftover_blanks leftovers) error
