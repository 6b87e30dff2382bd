-- What is printed of a row and the host file that it was written to, in each form.
use Rattle.std.specs.Prelude.{ℕ, List, [], ◌∷◌, ◌++◌, Option, Some, None, codes}
use Rattle.std.specs.Option.{option_map_or}
use Rattle.json.specs.Json.{Json, null}
use Rattle.d64_image.specs.Disk.{Disk, Bytes}
use Rattle.d64_leftovers.specs.declared.row.ListedRow.{ListedRow}
use Rattle.program_arguments.specs.declared.jobs.Leftovers.{Leftovers}
use Rattle.out_json_csv.specs.Rows.{host_field}
use Rattle.out_json_csv.specs.Values.{Field, object_of}
use Rattle.out_json_csv.specs.FailedDumps.{host_value}
use Rattle.host_storage.specs.Shown.{shown_name}
use Rattle.out_files.specs.RowObject.{row_members, leftover_members}
use Rattle.out_files.specs.CsvRow.{file_columns, leftover_columns, name_alone, leftover_blanks, row_fields, leftover_fields, row_with}
use Rattle.out_files.specs.RowText.{row_text}

-- the member with the path of the host file; null if no file was written
abbrev pub path_member : Option Bytes → Field
path_member path = (codes "file", option_map_or host_value path null)

-- the object of a row of an image with this host name, and the path of its host file
unfoldable pub extracted_object : Leftovers → Bytes → ListedRow → Option Bytes → Json
extracted_object leftovers name row path = object_of (row_members name row ++ (path_member path ∷ leftover_members leftovers row))

-- the field with the path of the host file; empty if no file was written
abbrev pub path_field : Option Bytes → List ℕ
path_field path = option_map_or host_field path []

-- the row of CSV of it: the path comes before what is left over and the error, which is empty
unfoldable pub extracted_row : Leftovers → Bytes → ListedRow → Option Bytes → List ℕ
extracted_row leftovers name row path = row_with (row_fields name row ++ (path_field path ∷ leftover_fields leftovers row)) []

-- the path of the host file, at the end of a line for people
abbrev pub path_text : Option Bytes → List ℕ
path_text None = codes ", not written"
path_text (Some path) = codes " -> " ++ shown_name path

-- the line of such a slot
unfoldable pub extracted_line : Disk → ListedRow → Option Bytes → List ℕ
extracted_line image row path = row_text image row ++ (path_text path ++ codes "\n")

-- the header row
unfoldable pub extracted_header : Leftovers → List ℕ
extracted_header leftovers = row_with (file_columns ++ (codes "file" ∷ leftover_columns leftovers)) (codes "error")

-- a row with only a name and an error
unfoldable pub unextracted_row : Leftovers → Bytes → List ℕ → List ℕ
unextracted_row leftovers name error = row_with (name_alone name ++ ([] ∷ leftover_blanks leftovers)) error
