-- The list of an image's files, if every call is accepted.
use Rattle.std.specs.Prelude.{ℕ, bytes_eq, if◌then◌else◌, List, [], ◌∷◌, ◌++◌, Option, Some, None, true}
use Rattle.d64_leftovers.specs.declared.row.ListedRow.{ListedRow}
use Rattle.cmd_extract_contents.specs.Portions.{Portion}
use Rattle.cmd_extract_contents.specs.Limits.{left_after, portion_within}
use Rattle.cmd_extract.specs.Extracts.{printed_file}
use Rattle.out_files.specs.Forms.{as_json}
use Rattle.cmd_extract.specs.Setup.{TaskView}
use Rattle.host_names.specs.Paths.{path_in}
use Rattle.cmd_extract.specs.Work.{Work, Done, Then, Why, HostCall, Look, Folder, NewFolder, NewFile, MoreOfFile, Rename}
use Rattle.cmd_extract.specs.Progress.{portion_of, row_name}

-- the bytes that a call puts into the file at a path
abbrev pub bytes_into : List ℕ → HostCall → List ℕ
bytes_into path (NewFile place bytes) = if bytes_eq path place then bytes else []
bytes_into path (MoreOfFile place bytes) = if bytes_eq path place then bytes else []
bytes_into path (Look place) = []
bytes_into path (Folder place) = []
bytes_into path (NewFolder place) = []
bytes_into path (Rename from to) = []

-- the bytes that work puts into it, one call after another, if every call is accepted
unfoldable pub all_into : List ℕ → Work → List ℕ
all_into path (Done outcome) = []
all_into path (Then call next) = bytes_into path call ++ all_into path (next true)
all_into path (Why place next) = all_into path (next None)

-- the path of the host file of a row in the finished folder, if there is something to write of it
abbrev pub path_of : TaskView → ListedRow → List (List ℕ) → Option Portion → Option (List ℕ)
path_of task row taken None = None
path_of task row taken (Some portion) = Some (path_in task.done (row_name taken row portion.extent))

-- the host names that are taken after the file of a row
abbrev pub taken_after : ListedRow → List (List ℕ) → Option Portion → List (List ℕ)
taken_after row taken None = taken
taken_after row taken (Some portion) = taken ++ row_name taken row portion.extent ∷ []

-- the lines of rows, one after another, if later files may have this many bytes, and these names
-- are taken
unfoldable pub lines_of_rows : TaskView → List ListedRow → Option ℕ → List (List ℕ) → List ℕ
lines_of_rows task [] left taken = []
lines_of_rows task (row ∷ rows) left taken =
    let portion = portion_within left (portion_of task row) in
    printed_file (as_json task.setup.form) task.name task.dump.image row (path_of task row taken portion)
    ++ lines_of_rows task rows (left_after left (portion_of task row)) (taken_after row taken portion)
