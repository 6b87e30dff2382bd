-- How an image is unpacked.
use Rattle.std.specs.Prelude.{ℕ, Bool, true, false, nat_lt, if◌then◌else◌, List, [], ◌∷◌, ◌++◌, length, Option, Some, None, is_some, codes}
use Rattle.std.specs.Str.{is_utf8}
use Rattle.d64_image.specs.Disk.{Bytes}
use Rattle.d64_survey.specs.Dump.{DumpView}
use Rattle.d64_leftovers.specs.Rows.{wanted_rows}
use Rattle.d64_leftovers.specs.declared.row.ListedRow.{ListedRow}
use Rattle.d64_inventory.specs.ListingAmiss.{is_listing_amiss}
use Rattle.cmd_extract_contents.specs.Portions.{Portion}
use Rattle.cmd_extract_contents.specs.Limits.{portion_within}
use Rattle.d64_g64.specs.DumpOf.{dump_of}
use Rattle.out_messages.specs.FaultLines.{unread_line, wrong_length_line, unwritten_line, present_line, skipped_line, too_much_line}
use Rattle.out_files.specs.Forms.{after_rows}
use Rattle.out_files.specs.Forms.{files_and}
use Rattle.cmd_extract.specs.Extracts.{printed_error, printed_length}
use Rattle.program_surveys.specs.FileOutcomes.{FileOutcome}
use Rattle.program_console.specs.Reasons.{with_known_reason}
use Rattle.program_console.specs.declared.reason.Reason.{Reason}
use Rattle.program_surveys.specs.declared.report.Verdict.{Verdict}
use Rattle.program_surveys.specs.declared.report.Verdict.TheVariants.{Clean, Amiss, Failed}
use Rattle.host_names.specs.ImagePlace.{folders_of}
use Rattle.cmd_extract.specs.Setup.{ExtractSetupView, TaskView, list_in, list_path}
use Rattle.host_names.specs.Paths.{path_inside, with_slash, done_path, partial_path, path_in}
use Rattle.cmd_extract.specs.Work.{Work, Done, Then, Why, Look, Folder, NewFolder, NewFile, MoreOfFile, Rename}
use Rattle.cmd_extract.specs.Progress.{Progress, waiting_limit, progress_before_files, portion_of, row_name, reported_progress, spent_progress, named_progress, written_progress, unwritten_progress, put_progress, unput_progress, dropped_progress}
use Rattle.cmd_extract.specs.declared.list_state.ListState.{ListState}
use Rattle.cmd_extract.specs.declared.list_state.ListState.TheVariants.{New, Begun, GivenUp}

-- the result of an image that is refused: its error is printed, and this goes to the standard error
abbrev pub refused_outcome : ExtractSetupView → List ℕ → List ℕ → List ℕ → FileOutcome
refused_outcome setup name error complaint = record { printed = printed_error setup.form name error; complaint = complaint; verdict = Failed }

-- the result of a file that cannot be read
abbrev pub unread_outcome : ExtractSetupView → List ℕ → FileOutcome
unread_outcome setup name = refused_outcome setup name (codes "cannot be read") (unread_line name)

-- the result of a file that is not a dump
abbrev pub wrong_length_outcome : ExtractSetupView → List ℕ → Bytes → FileOutcome
wrong_length_outcome setup name bytes =
    record { printed = printed_length setup.form name bytes; complaint = wrong_length_line name bytes; verdict = Failed }

-- the result of an image whose folder, or its unfinished form, exists already at this path
abbrev pub present_outcome : TaskView → List ℕ → FileOutcome
present_outcome task path = refused_outcome task.setup task.name (codes "is there already") (present_line path)

-- the result of an image whose folder exists, and is skipped
abbrev pub skipped_outcome : TaskView → FileOutcome
skipped_outcome task = record { printed = []; complaint = skipped_line task.done; verdict = Clean }

-- the result if a folder cannot be made at this path, with the reason, if one is known
abbrev pub unmade_outcome : TaskView → List ℕ → Option Reason → FileOutcome
unmade_outcome task path reason =
    refused_outcome task.setup task.name (codes "cannot be written") (with_known_reason reason (unwritten_line path))

-- the verdict on an image, if no write failed
abbrev pub verdict_on : TaskView → Progress → Verdict
verdict_on task progress =
    if is_some progress.left then (if is_listing_amiss task.dump then Amiss else Clean) else Failed

-- the result if all is written, and the folder has its name
abbrev pub finished_outcome : TaskView → Progress → FileOutcome
finished_outcome task progress = record { printed = progress.printed; complaint = progress.complaint; verdict = verdict_on task progress }

-- the result if all is written, but the folder does not get its name, with the reason, if one is
-- known
abbrev pub unnamed_outcome : TaskView → Progress → Option Reason → FileOutcome
unnamed_outcome task progress reason =
    refused_outcome task.setup task.name (codes "cannot be written") (with_known_reason reason (progress.complaint ++ unwritten_line task.done))

-- the result if a write failed, and the folder keeps its name
abbrev pub unfinished_outcome : Progress → FileOutcome
unfinished_outcome progress = record { printed = progress.printed; complaint = progress.complaint; verdict = Failed }

-- all files have come: what comes after them is printed, and too many bytes are reported
unfoldable pub closed_progress : TaskView → Progress → Progress
closed_progress task progress = record progress {
  printed = progress.printed ++ after_rows task.setup.form.format task.dump;
  complaint = progress.complaint ++ (if is_some progress.left then [] else too_much_line task.name);
}

-- the folder has its name, or does not get it
abbrev pub after_naming : TaskView → Progress → Bool → Work
after_naming task progress true = Done (finished_outcome task progress)
after_naming task progress false = Why task.done (λ reason. Done (unnamed_outcome task progress reason))

-- the folder gets its name, if all was written
unfoldable pub name_work : TaskView → Progress → Work
name_work task progress =
    if progress.has_failed then Done (unfinished_outcome progress)
    else Then (Rename task.partial task.done) (after_naming task progress)

-- the lines that waited are in the list of the files, or could not be written; then comes the rest
abbrev pub after_putting : TaskView → Progress → (Progress → Work) → Bool → Work
after_putting task progress rest true = rest (put_progress progress)
after_putting task progress rest false = Why (list_path task) (λ reason. rest (unput_progress task reason progress))

-- the lines that wait are written to the list: it is made with the first of them, and later ones
-- are appended; then comes the rest
unfoldable pub put_work : ListState → TaskView → Progress → (Progress → Work) → Work
put_work New task progress rest = Then (NewFile (list_path task) progress.lines) (after_putting task progress rest)
put_work Begun task progress rest = Then (MoreOfFile (list_path task) progress.lines) (after_putting task progress rest)
put_work GivenUp task progress rest = rest (dropped_progress progress)

-- the lines that wait are written to the list once they pass the limit; then comes the rest
unfoldable pub wait_work : TaskView → Progress → (Progress → Work) → Work
wait_work task progress rest =
    if nat_lt waiting_limit (length progress.lines) then put_work progress.list task progress rest else rest progress

-- the last lines are written to the list, and the folder gets its name
abbrev pub list_work : TaskView → Progress → Work
list_work task progress = put_work progress.list task progress (name_work task)

-- a file was written, or could not be; then comes the rest
abbrev pub after_writing : TaskView → ListedRow → List ℕ → Progress → (Progress → Work) → Bool → Work
after_writing task row file progress rest true = rest (written_progress task row file progress)
after_writing task row file progress rest false = Why (path_in task.partial file) (λ reason. rest (unwritten_progress task row file reason progress))

-- a file is written under a host name that is taken; then comes the rest
abbrev pub write_work : TaskView → ListedRow → List ℕ → Bytes → Progress → (Progress → Work) → Work
write_work task row file bytes progress rest = Then (NewFile (path_in task.partial file) bytes) (after_writing task row file progress rest)

-- the file of a row is written, if there is something to write; then comes the rest
unfoldable pub file_work : TaskView → ListedRow → Progress → Option Portion → (Progress → Work) → Work
file_work task row progress None rest = rest (reported_progress task row None progress)
file_work task row progress (Some portion) rest =
    let file = row_name progress.taken row portion.extent in
    write_work task row file portion.bytes (named_progress file progress) rest

-- the files of rows are written, one after another, and their lines in the list of the files
unfoldable pub files_work : TaskView → List ListedRow → Progress → Work
files_work task [] progress = list_work task (closed_progress task progress)
files_work task (row ∷ wanted_rows) progress =
    file_work task row (spent_progress task row progress) (portion_within progress.left (portion_of task row))
    (λ after. wait_work task after (files_work task wanted_rows))

-- a folder cannot be made at this path: the host gives the reason, and the error names the chosen
-- folder instead if that does not exist
unfoldable pub unmade_work : TaskView → List ℕ → Work
unmade_work task path =
    Then (Look task.setup.into) (λ is_there. Why path (λ reason. Done (unmade_outcome task (if is_there then path else task.setup.into) reason)))

-- the image's folder is made, and then its files
unfoldable pub folder_work : TaskView → Work
folder_work task =
    Then (NewFolder task.partial) (λ is_made. if is_made then files_work task (wanted_rows (files_and task.setup.form.leftovers) task.dump) (progress_before_files task) else unmade_work task task.partial)

-- folders are made unless they exist, each in the one before it; then comes the rest, which gets
-- the path of a folder that cannot be made
unfoldable pub folders_work : (Option (List ℕ) → Work) → List ℕ → List (List ℕ) → Work
folders_work rest place [] = rest None
folders_work rest place (folder ∷ folders) =
    Then (Folder (place ++ folder)) (λ is_had. if is_had then folders_work rest (with_slash (place ++ folder)) folders else rest (Some (place ++ folder)))

-- the folder of the image is made, unless a folder above it cannot be made
abbrev pub folder_after : TaskView → Option (List ℕ) → Work
folder_after task None = folder_work task
folder_after task (Some path) = unmade_work task path

-- the path of the image's folder exists: it is skipped if the options ask for that and it has the
-- list of the files, since then it is complete
unfoldable pub present_work : TaskView → Work
present_work task =
    if task.setup.skips
    then Then (Look (list_in task.done)) (λ is_complete. Done (if is_complete then skipped_outcome task else present_outcome task task.done))
    else Done (present_outcome task task.done)

-- unless the image's folder exists, complete or unfinished, it is made in these folders
unfoldable pub task_work_with : TaskView → List (List ℕ) → Work
task_work_with task folders =
    Then (Look task.done) (λ is_done. if is_done then present_work task
    else Then (Look task.partial) (λ is_begun. if is_begun then Done (present_outcome task task.partial)
    else folders_work (folder_after task) (path_inside task.setup.into) folders))

-- the same in the folders of the image's path
abbrev pub task_work : TaskView → Work
task_work task = task_work_with task (folders_of task.name)

-- the image of a dump, with these options
abbrev pub task_of : ExtractSetupView → List ℕ → DumpView → TaskView
task_of setup name dump =
    record { setup = setup; name = name; dump = dump; done = done_path setup.into name; partial = partial_path setup.into name }

-- what is done with bytes: a dump is unpacked, and for other bytes the wrong length is reported
abbrev pub dump_work : ExtractSetupView → List ℕ → Bytes → Option DumpView → Work
dump_work setup name bytes None = Done (wrong_length_outcome setup name bytes)
dump_work setup name bytes (Some dump) = task_work (task_of setup name dump)

-- what is done with a file: with its bytes, or if it cannot be read. A name that is not UTF-8 is no
-- file's
unfoldable pub unpacking : ExtractSetupView → List ℕ → Option Bytes → Work
unpacking setup name None = Done (unread_outcome setup name)
unpacking setup name (Some bytes) = if is_utf8 name then dump_work setup name bytes (dump_of bytes) else Done (unread_outcome setup name)
