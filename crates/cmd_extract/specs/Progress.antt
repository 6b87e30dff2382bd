-- How far the files of an image are unpacked.
use Rattle.std.specs.Prelude.{ℕ, Bool, true, false, List, [], ◌∷◌, ◌++◌, Option, Some, None, codes, decimal}
use Rattle.petscii.specs.Spelling.{spelling}
use Rattle.d64_image.specs.Block.{pair_at}
use Rattle.d64_files.specs.Name.{name_in}
use Rattle.d64_leftovers.specs.declared.orphan_row.OldSlot.{OldSlot}
use Rattle.d64_leftovers.specs.declared.row.ListedRow.{ListedRow}
use Rattle.d64_leftovers.specs.declared.row.ListedRow.TheVariants.{File, Deleted, Orphan}
use Rattle.cmd_extract_contents.specs.Portions.{Portion}
use Rattle.cmd_extract_contents.specs.HostFileNames.{is_part, host_name_of_row}
use Rattle.cmd_extract_contents.specs.RowPortions.{row_portion}
use Rattle.cmd_extract_contents.specs.Limits.{limit, left_after}
use Rattle.cmd_extract_contents.specs.declared.extent.Extent.{Extent}
use Rattle.host_names.specs.TakenNames.{next_name}
use Rattle.host_names.specs.declared.ending.Ending.TheVariants as endings
use Rattle.program_console.specs.Reasons.{with_known_reason}
use Rattle.program_console.specs.declared.reason.Reason.{Reason}
use Rattle.out_messages.specs.FaultLines.{unwritten_line}
use Rattle.out_files.specs.Forms.{before_rows}
use Rattle.cmd_extract.specs.Extracts.{printed_file}
use Rattle.out_files.specs.Forms.{as_json}
use Rattle.cmd_extract.specs.Setup.{TaskView, list_path}
use Rattle.host_names.specs.Paths.{path_in}
use Rattle.cmd_extract.specs.declared.list_state.ListState.{ListState}
use Rattle.cmd_extract.specs.declared.list_state.ListState.TheVariants.{New, Begun, GivenUp}

-- the most bytes of lines that wait to be written to the list of the files
abbrev pub waiting_limit : ℕ
waiting_limit = 65536

-- how far an image is unpacked: how many bytes later files may have, the host names that are taken,
-- what is printed, the lines (in JSON) that wait to be written to the list of the files, how far
-- that list is written, what goes to the standard error, and whether a write failed
pub record Progress : Type 0 where
  pub left : Option ℕ
  pub taken : List (List ℕ)
  pub printed : List ℕ
  pub lines : List ℕ
  pub list : ListState
  pub complaint : List ℕ
  pub has_failed : Bool

-- no file has come yet
abbrev pub progress_before_files : TaskView → Progress
progress_before_files task = record {
  left = Some limit;
  taken = [];
  printed = before_rows task.setup.form.format task.name task.dump.image;
  lines = [];
  list = New;
  complaint = [];
  has_failed = false;
}

-- the track and the sector of a block, as in a host name
abbrev pub pair_stem : ℕ × ℕ → List ℕ
pair_stem pair = decimal pair.0 ++ (codes "-" ++ decimal pair.1)

-- the name of an orphan in text form: that in an old slot, or else its first block
abbrev pub orphan_stem : ℕ → Option OldSlot → List ℕ
orphan_stem first None = pair_stem (pair_at first)
orphan_stem first (Some old) = spelling (name_in old.field)

-- the host name of the file of a row: a deleted file and an orphan have endings that say so
unfoldable pub row_name : List (List ℕ) → ListedRow → Extent → List ℕ
row_name taken (File row) extent = host_name_of_row taken row extent
row_name taken (Deleted row) extent = next_name taken (spelling (name_in row.field)) endings.Deleted (is_part extent)
row_name taken (Orphan row) extent = next_name taken (orphan_stem row.first row.old) endings.Orphan (is_part extent)

-- what there is to write of the file of a row
abbrev pub portion_of : TaskView → ListedRow → Option Portion
portion_of task row = row_portion task.setup.with_parts task.dump.image row

-- the line of a file was added, with the path of its host file, or None if no file was written
unfoldable pub reported_progress : TaskView → ListedRow → Option (List ℕ) → Progress → Progress
reported_progress task row path progress = record progress {
  printed = progress.printed ++ printed_file task.setup.form task.name task.dump.image row path;
  lines = progress.lines ++ printed_file (as_json task.setup.form) task.name task.dump.image row path;
}

-- after this file fewer bytes are left for later ones
abbrev pub spent_progress : TaskView → ListedRow → Progress → Progress
spent_progress task row progress = record progress { left = left_after progress.left (portion_of task row) }

-- a host name is taken
abbrev pub named_progress : List ℕ → Progress → Progress
named_progress file progress = record progress { taken = progress.taken ++ file ∷ [] }

-- a write at a path failed, for this reason, if one is known
abbrev pub failed_at : List ℕ → Option Reason → Progress → Progress
failed_at path reason progress =
    record progress { complaint = with_known_reason reason (progress.complaint ++ unwritten_line path); has_failed = true }

-- the file of a row was written under a host name
abbrev pub written_progress : TaskView → ListedRow → List ℕ → Progress → Progress
written_progress task row file progress = reported_progress task row (Some (path_in task.done file)) progress

-- the file of a row could not be written
abbrev pub unwritten_progress : TaskView → ListedRow → List ℕ → Option Reason → Progress → Progress
unwritten_progress task row file reason progress = reported_progress task row None (failed_at (path_in task.partial file) reason progress)

-- the lines that waited are in the list
abbrev pub put_progress : Progress → Progress
put_progress progress = record progress { lines = []; list = Begun }

-- the lines could not be written, and the rest of the list is given up
abbrev pub unput_progress : TaskView → Option Reason → Progress → Progress
unput_progress task reason progress = record (failed_at (list_path task) reason progress) { lines = []; list = GivenUp }

-- the lines that waited are dropped, since the list is given up
abbrev pub dropped_progress : Progress → Progress
dropped_progress progress = record progress { lines = [] }
