-- An image with a clean verdict has no line on the standard error.
use Rattle.std.proofs.Common.{◌≡◌, ℕ, Bool, true, false, cond, List, [], ◌∷◌, ◌++◌, Option, Some, None, Result, Ok, Err, refl, sym, ap, ◌∙◌, subst, inl, inr, append-nil}
use Rattle.std.specs.Prelude.{IfOk, is_some, nat_lt, length}
use Rattle.std.specs.Str.{is_utf8}
use Rattle.host_storage.specs.Files.{HostState}
use Rattle.d64_survey.specs.Dump.{DumpView}
use Rattle.d64_leftovers.specs.Rows.{wanted_rows}
use Rattle.d64_leftovers.specs.declared.row.ListedRow.{ListedRow}
use Rattle.cmd_extract_contents.specs.Portions.{Portion}
use Rattle.cmd_extract_contents.specs.Limits.{portion_within}
use Rattle.d64_g64.specs.DumpOf.{dump_of}
use Rattle.out_messages.specs.FaultLines.{too_much_line}
use Rattle.program_surveys.specs.FileOutcomes.{FileOutcome, KeepsQuiet}
use Rattle.program_surveys.specs.declared.report.Verdict.TheVariants.{Clean, Amiss, Failed}
use Rattle.host_names.specs.ImagePlace.{folders_of}
use Rattle.d64_inventory.specs.ListingAmiss.{is_listing_amiss}
use Rattle.out_files.specs.Forms.{files_and}
use Rattle.cmd_extract.specs.Setup.{ExtractSetupView, TaskView, list_in}
use Rattle.host_names.specs.Paths.{path_inside, with_slash, path_in}
use Rattle.cmd_extract.specs.Work.{Work, Done, Then, Why, Look, Rename, DoesWork}
use Rattle.cmd_extract.specs.Progress.{Progress, waiting_limit, progress_before_files, portion_of, row_name, reported_progress, spent_progress, named_progress, written_progress, unwritten_progress, failed_at, put_progress, unput_progress, dropped_progress}
use Rattle.cmd_extract.specs.declared.list_state.ListState.{ListState}
use Rattle.cmd_extract.specs.declared.list_state.ListState.TheVariants.{New, Begun, GivenUp}
use Rattle.program_console.specs.declared.reason.Reason.{Reason}
use Rattle.cmd_extract.specs.Unpacking.{unread_outcome, skipped_outcome, present_outcome, unfinished_outcome, verdict_on, closed_progress, after_naming, name_work, after_putting, put_work, wait_work, list_work, after_writing, file_work, files_work, unmade_work, folder_work, folders_work, folder_after, present_work, task_work_with, task_of, dump_work, unpacking}
use Rattle.cmd_extract.specs.UnpackLaws.{CleanIsQuiet}
use Rattle.cmd_extract.specs.Effects.{unpacks}
use Rattle.cmd_extract.specs.declared.unpacker.Unpacker.{Unpacker}

-- whatever the host returns, a clean result has no complaint
unfoldable IsQuietWork : Work → Type 0
IsQuietWork (Done outcome) = outcome.verdict ≡ Clean → outcome.complaint ≡ []
IsQuietWork (Then call next) = (said : Bool) → IsQuietWork (next said)
IsQuietWork (Why path next) = (reason : Option Reason) → IsQuietWork (next reason)

-- then a clean result has none
does_quietly : (work : Work) (old new : HostState) (outcome : FileOutcome) → IsQuietWork work → DoesWork work old (Some outcome) new → outcome.verdict ≡ Clean → outcome.complaint ≡ []
unfolding DoesWork IsQuietWork
does_quietly (Done reported) old new outcome quiet (same, inl is) clean =
    let e : outcome ≡ reported = cc in
    ap (λ (a : FileOutcome). a.complaint) e ∙ quiet (sym (ap (λ (a : FileOutcome). a.verdict) e) ∙ clean)
does_quietly (Done reported) old new outcome quiet (same, inr is) clean = absurd (let e : Some outcome ≡ None = is in cc)
does_quietly (Then call next) old new outcome quiet (inl (said, middle, says, done)) clean = does_quietly (next said) middle new outcome (quiet said) done clean
does_quietly (Then call next) old new outcome quiet (inr (same, is)) clean = absurd (let e : Some outcome ≡ None = is in cc)
does_quietly (Why path next) old new outcome quiet (inl (reason, says, done)) clean = does_quietly (next reason) old new outcome (quiet reason) done clean
does_quietly (Why path next) old new outcome quiet (inr (same, is)) clean = absurd (let e : Some outcome ≡ None = is in cc)

-- there is no complaint unless a write failed
abbrev IsQuietSoFar : Progress → Type 0
IsQuietSoFar p = p.has_failed ≡ false → p.complaint ≡ []

-- nor at the end of all files, if the verdict is clean
abbrev IsQuietEnd : TaskView → Progress → Type 0
IsQuietEnd task p = p.has_failed ≡ false → verdict_on task p ≡ Clean → p.complaint ≡ []

closed_quiet : (task : TaskView) (p : Progress) → IsQuietSoFar p → IsQuietEnd task (closed_progress task p)
unfolding closed_progress
closed_quiet task p quiet = λ unfailed. by_left p.left (p.complaint) (quiet unfailed)
  where
    by_left : (left : Option ℕ) (complaint : List ℕ) → complaint ≡ []
        → (cond (is_some left) (cond (is_listing_amiss task.dump) Amiss Clean) Failed) ≡ Clean → complaint ++ cond (is_some left) [] (too_much_line task.name) ≡ []
    by_left (Some count) complaint none clean = append-nil complaint ∙ none
    by_left None complaint none clean = absurd (let e : Failed ≡ Clean = clean in cc)

named_quiet : (task : TaskView) (p : Progress) → IsQuietEnd task p → IsQuietWork (name_work task p)
unfolding name_work IsQuietWork
named_quiet task p quiet = by_failure p.has_failed refl
  where
    by_failure : (failed : Bool) → failed ≡ p.has_failed → IsQuietWork (cond failed (Done (unfinished_outcome p)) (Then (Rename task.partial task.done) (after_naming task p)))
    by_failure true is = λ clean. absurd (let e : Failed ≡ Clean = clean in cc)
    by_failure false is = by_name
      where
        by_name : (said : Bool) → IsQuietWork (after_naming task p said)
        by_name true = quiet (sym is)
        by_name false = λ reason clean. absurd (let e : Failed ≡ Clean = clean in cc)

-- a piece of the list
put_quiet : (task : TaskView) (state : ListState) (p : Progress) (rest : Progress → Work) → IsQuietWork (rest (put_progress p)) → ((reason : Option Reason) → IsQuietWork (rest (unput_progress task reason p)))
    → IsQuietWork (rest (dropped_progress p)) → IsQuietWork (put_work state task p rest)
unfolding put_work IsQuietWork
put_quiet task New p rest put unput dropped = by_piece
  where
    by_piece : (said : Bool) → IsQuietWork (after_putting task p rest said)
    by_piece true = put
    by_piece false = unput
put_quiet task Begun p rest put unput dropped = by_piece
  where
    by_piece : (said : Bool) → IsQuietWork (after_putting task p rest said)
    by_piece true = put
    by_piece false = unput
put_quiet task GivenUp p rest put unput dropped = dropped

wait_quiet : (task : TaskView) (p : Progress) (rest : Progress → Work) → IsQuietSoFar p → ((q : Progress) → IsQuietSoFar q → IsQuietWork (rest q)) → IsQuietWork (wait_work task p rest)
unfolding wait_work
wait_quiet task p rest quiet later = by_length (nat_lt waiting_limit (length p.lines))
  where
    by_length : (is_long : Bool) → IsQuietWork (cond is_long (put_work p.list task p rest) (rest p))
    by_length true =
        put_quiet task p.list p rest (later (put_progress p) quiet) (λ reason. later (unput_progress task reason p) (λ unfailed. absurd (let e : true ≡ false = unfailed in cc)))
        (later (dropped_progress p) quiet)
    by_length false = later p quiet

listed_quiet : (task : TaskView) (p : Progress) → IsQuietEnd task p → IsQuietWork (list_work task p)
listed_quiet task p quiet =
    put_quiet task p.list p (name_work task) (named_quiet task (put_progress p) quiet)
    (λ reason. named_quiet task (unput_progress task reason p) (λ unfailed. absurd (let e : true ≡ false = unfailed in cc))) (named_quiet task (dropped_progress p) quiet)

-- one more file
reported_quiet : (task : TaskView) (row : ListedRow) (path : Option (List ℕ)) (p : Progress) → IsQuietSoFar p → IsQuietSoFar (reported_progress task row path p)
unfolding reported_progress
reported_quiet task row path p quiet = quiet

file_quiet : (task : TaskView) (row : ListedRow) (p : Progress) (portion : Option Portion) (rest : Progress → Work) → IsQuietSoFar p → ((q : Progress) → IsQuietSoFar q → IsQuietWork (rest q))
    → IsQuietWork (file_work task row p portion rest)
unfolding file_work IsQuietWork
file_quiet task row p None rest quiet later = later (reported_progress task row None p) (reported_quiet task row None p quiet)
file_quiet task row p (Some portion) rest quiet later = by_writing
  where
    file : List ℕ
    file = row_name p.taken row portion.extent

    named : Progress
    named = named_progress file p

    by_writing : (said : Bool) → IsQuietWork (after_writing task row file named rest said)
    by_writing true = later (written_progress task row file named) (reported_quiet task row (Some (path_in task.done file)) named quiet)
    by_writing false = λ reason. later (unwritten_progress task row file reason named)
        (reported_quiet task row None (failed_at (path_in task.partial file) reason named) (λ unfailed. absurd (let e : true ≡ false = unfailed in cc)))

files_quiet : (task : TaskView) (rows : List ListedRow) (p : Progress) → IsQuietSoFar p → IsQuietWork (files_work task rows p)
unfolding files_work
files_quiet task [] p quiet = listed_quiet task (closed_progress task p) (closed_quiet task p quiet)
files_quiet task (row ∷ wanted_rows) p quiet =
    file_quiet task row (spent_progress task row p) (portion_within p.left (portion_of task row)) (λ (q : Progress). wait_work task q (files_work task wanted_rows)) quiet
    (λ q is_quiet. wait_quiet task q (files_work task wanted_rows) is_quiet (λ r. files_quiet task wanted_rows r))

-- the folders, and what is in them
unmade_quiet : (task : TaskView) (path : List ℕ) → IsQuietWork (unmade_work task path)
unfolding unmade_work IsQuietWork
unmade_quiet task path = λ is_there reason clean. absurd (let e : Failed ≡ Clean = clean in cc)

folder_quiet : (task : TaskView) → IsQuietWork (folder_work task)
unfolding folder_work IsQuietWork
folder_quiet task true = files_quiet task (wanted_rows (files_and task.setup.form.leftovers) task.dump) (progress_before_files task) (λ unfailed. refl)
folder_quiet task false = unmade_quiet task task.partial

after_quiet : (task : TaskView) (unmade : Option (List ℕ)) → IsQuietWork (folder_after task unmade)
after_quiet task None = folder_quiet task
after_quiet task (Some path) = unmade_quiet task path

folders_quiet : (task : TaskView) (place : List ℕ) (folders : List (List ℕ)) → IsQuietWork (folders_work (folder_after task) place folders)
unfolding folders_work IsQuietWork
folders_quiet task place [] = after_quiet task None
folders_quiet task place (folder ∷ folders) = by_outcome (folders_quiet task (with_slash (place ++ folder)) folders)
  where
    by_outcome : IsQuietWork (folders_work (folder_after task) (with_slash (place ++ folder)) folders) → (said : Bool)
        → IsQuietWork (cond said (folders_work (folder_after task) (with_slash (place ++ folder)) folders) (folder_after task (Some (place ++ folder))))
    by_outcome quiet true = quiet
    by_outcome quiet false = after_quiet task (Some (place ++ folder))

present_quiet : (task : TaskView) → task.setup.skips ≡ false → IsQuietWork (present_work task)
unfolding IsQuietWork present_work
present_quiet task skips =
    subst (λ (s : Bool). IsQuietWork (cond s (Then (Look (list_in task.done)) (λ is_complete. Done (cond is_complete (skipped_outcome task) (present_outcome task task.done)))) (Done (present_outcome task task.done)))) (sym skips)
    (λ clean. absurd (let e : Failed ≡ Clean = clean in cc))

task_quiet : (task : TaskView) (folders : List (List ℕ)) → task.setup.skips ≡ false → IsQuietWork (task_work_with task folders)
unfolding task_work_with IsQuietWork
task_quiet task folders skips true = present_quiet task skips
task_quiet task folders skips false = by_begun
  where
    by_begun : (said : Bool) → IsQuietWork (cond said (Done (present_outcome task task.partial)) (folders_work (folder_after task) (path_inside task.setup.into) folders))
    by_begun true = λ clean. absurd (let e : Failed ≡ Clean = clean in cc)
    by_begun false = folders_quiet task (path_inside task.setup.into) folders

dump_quiet : (setup : ExtractSetupView) (name bytes : List ℕ) (dump : Option DumpView) → setup.skips ≡ false → IsQuietWork (dump_work setup name bytes dump)
unfolding IsQuietWork
dump_quiet setup name bytes None skips = λ clean. absurd (let e : Failed ≡ Clean = clean in cc)
dump_quiet setup name bytes (Some dump) skips = task_quiet (task_of setup name dump) (folders_of name) skips

unpacking_quiet : (setup : ExtractSetupView) (name : List ℕ) (bytes : Option (List ℕ)) → setup.skips ≡ false → IsQuietWork (unpacking setup name bytes)
unfolding unpacking IsQuietWork
unpacking_quiet setup name None skips = λ clean. absurd (let e : Failed ≡ Clean = clean in cc)
unpacking_quiet setup name (Some bytes) skips = by_text (is_utf8 name)
  where
    by_text : (t : Bool) → IsQuietWork (cond t (dump_work setup name bytes (dump_of bytes)) (Done (unread_outcome setup name)))
    by_text true = dump_quiet setup name bytes (dump_of bytes) skips
    by_text false = λ clean. absurd (let e : Failed ≡ Clean = clean in cc)

pub clean_is_quiet : CleanIsQuiet
clean_is_quiet setup skips name bytes old outcome new done clean = does_quietly (unpacking setup name bytes) old new outcome (unpacking_quiet setup name bytes skips) done clean

not_true : (test : Bool) → (test ≡ true → ⊥) → test ≡ false
not_true true refuted = absurd (refuted refl)
not_true false refuted = refl

-- an extraction that skips nothing writes nothing to the standard error about a clean image, if
-- there was memory to begin
pub extraction_is_quiet : {E : Type 0} (setup : ExtractSetupView) (made : Result Unpacker E)
    → IfOk made (λ unpacker. unpacker.setup ≡ setup) → (setup.skips ≡ true → ⊥) → IfOk made (λ unpacker. KeepsQuiet (unpacks unpacker.setup))
extraction_is_quiet setup (Ok unpacker) made unskipped =
    subst (λ (s : ExtractSetupView). KeepsQuiet (unpacks s)) (sym made) (clean_is_quiet setup (not_true setup.skips unskipped))
extraction_is_quiet setup (Err error) made unskipped = tt
