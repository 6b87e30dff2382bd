-- The effect of commands on the directory's list of names and contents: what a case does not name
-- stays as it was, in order.
use Rattle.std.specs.Prelude.{ℕ, true, false, not, if◌then◌else◌, List, [], ◌∷◌, ◌++◌, take, drop, length, filter, bytes_eq, Bool, Option, Some, None}
use Rattle.d64_image.specs.Disk.{Bytes}
use Rattle.d64_effects.specs.Contents.{ListedFile}
use Rattle.d64_effects.specs.Delete.{is_deleted_by}
use Rattle.d64_effects.specs.View.{View}
use Rattle.d64_effects.specs.ViewAfter.{is_vacant}
use Rattle.d64_files.specs.declared.kind.Kind.{Kind}

-- a list with one file more: at a place, or else at the end
abbrev pub list_with : List ListedFile → Option ℕ → ListedFile → List ListedFile
list_with rows (Some place) row = take place rows ++ (row ∷ drop place rows)
list_with rows None row = rows ++ (row ∷ [])

-- a new file of n blocks: closed, not locked, with these bytes
abbrev pub new_row : Bytes → Kind → Bytes → ℕ → ListedFile
new_row name kind bytes blocks = record { name = name; kind = kind; closed = true; locked = false; size = blocks; content = bytes }

-- how many files the list has from the slots before one
abbrev pub files_before : View → ℕ → ℕ
files_before shown slot = length (filter (λ entry. not (is_vacant entry)) (take slot shown.slots))

-- whether patterns delete a file of the list
abbrev pub is_scratched_row : List Bytes → ListedFile → Bool
is_scratched_row patterns row = is_deleted_by patterns row.closed row.locked row.name

-- a file of the list with another name
abbrev pub row_named : ListedFile → Bytes → ListedFile
row_named row name = record row { name = name }

-- a list in which the first file with a name gets another name
abbrev pub renamed_rows : List ListedFile → Bytes → Bytes → List ListedFile
renamed_rows [] old new = []
renamed_rows (row ∷ rows) old new = if bytes_eq row.name old then row_named row new ∷ rows else row ∷ renamed_rows rows old new
