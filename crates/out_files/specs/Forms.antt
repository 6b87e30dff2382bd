-- Forms in which files are printed: which rows, and what is before and after them.
use Rattle.std.specs.Prelude.{ℕ, List, [], true}
use Rattle.d64_image.specs.Disk.{Disk, Bytes}
use Rattle.d64_survey.specs.Dump.{DumpView}
use Rattle.d64_leftovers.specs.declared.selection.Selection.{Selection}
use Rattle.program_arguments.specs.declared.jobs.Format.{Format}
use Rattle.program_arguments.specs.declared.jobs.Format.TheVariants.{Text, Json, Csv}
use Rattle.program_arguments.specs.declared.jobs.Leftovers.{Leftovers}
use Rattle.out_files.specs.FileTable.{head_line, missing_lines}
use Rattle.out_files.specs.declared.form.Form.{Form}

-- the rows of files, and of what is wanted beside them
abbrev pub files_and : Leftovers → Selection
files_and leftovers = record { files = true; deleted = leftovers.deleted; orphans = leftovers.orphans }

-- a form with JSON as its format
abbrev pub as_json : Form → Form
as_json form = record { format = Json; leftovers = form.leftovers }

-- what is printed of an image before its files
abbrev pub before_rows : Format → Bytes → Disk → List ℕ
before_rows Text name image = head_line name image
before_rows Json name image = []
before_rows Csv name image = []

-- what is printed of an image after its files
abbrev pub after_rows : Format → DumpView → List ℕ
after_rows Text dump = missing_lines dump
after_rows Json dump = []
after_rows Csv dump = []
