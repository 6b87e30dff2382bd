-- What follows from the definition of how images are unpacked.
use Rattle.std.specs.Prelude.{◌≡◌, false, [], Some}
use Rattle.program_surveys.specs.FileOutcomes.{KeepsQuiet}
use Rattle.d64_leftovers.specs.Rows.{wanted_rows}
use Rattle.cmd_extract_contents.specs.Limits.{limit}
use Rattle.out_files.specs.Forms.{files_and}
use Rattle.cmd_extract.specs.Setup.{ExtractSetupView, TaskView, list_path}
use Rattle.cmd_extract.specs.Unpacking.{folder_work}
use Rattle.cmd_extract.specs.ListedLines.{all_into, lines_of_rows}
use Rattle.cmd_extract.specs.Effects.{unpacks}

-- an image with a clean verdict has no line on the standard error, unless complete images are
-- skipped
abbrev pub CleanIsQuiet : Type 0
CleanIsQuiet = (setup : ExtractSetupView) → setup.skips ≡ false → KeepsQuiet (unpacks setup)

-- if every call is accepted, the list of an image's files has the lines of all rows
abbrev pub ListIsWhole : Type 0
ListIsWhole = (task : TaskView) → all_into (list_path task) (folder_work task) ≡ lines_of_rows task (wanted_rows (files_and task.setup.form.leftovers) task.dump) (Some limit) []
