-- The pieces of the list of an image's files are the lines of all rows.
use Rattle.std.proofs.Common.{◌≡◌, ◌≢◌, ℕ, Bool, true, false, cond, List, [], ◌∷◌, ◌++◌, length, Option, Some, None, refl, sym, ap, ◌∙◌}
use Rattle.std.specs.Prelude.{⊤, bytes_eq, nat_lt, codes}
use Rattle.std.proofs.lemmas.Bool.{false_from_ne_true}
use Rattle.std.proofs.lemmas.List.{append_assoc, append_cancel_left}
use Rattle.std.proofs.lemmas.Slice.Eq.{bytes_eq-Decides}
use Rattle.petscii.specs.Spelling.{spelling}
use Rattle.d64_files.specs.Name.{name_in}
use Rattle.d64_leftovers.specs.Rows.{wanted_rows}
use Rattle.d64_leftovers.specs.declared.row.ListedRow.{ListedRow}
use Rattle.d64_leftovers.specs.declared.row.ListedRow.TheVariants.{File, Deleted, Orphan}
use Rattle.cmd_extract_contents.specs.Portions.{Portion}
use Rattle.cmd_extract_contents.specs.Limits.{portion_within}
use Rattle.cmd_extract_contents.specs.declared.extent.Extent.{Extent}
use Rattle.host_names.specs.declared.ending.Ending.{Ending}
use Rattle.host_names.specs.declared.ending.Ending.TheVariants as endings
use Rattle.host_names.specs.HostName.{ending_text, part_ending, tail}
use Rattle.host_names.specs.TakenNames.{next_name}
use Rattle.host_names.proofs.Tails.{rests, not_ended}
use Rattle.host_names.proofs.SafeNames.{name_ends}
use Rattle.cmd_extract.specs.Extracts.{printed_file}
use Rattle.out_files.specs.Forms.{as_json}
use Rattle.out_files.specs.Forms.{files_and}
use Rattle.cmd_extract.specs.Setup.{TaskView, list_path}
use Rattle.host_names.specs.Paths.{path_in, with_slash}
use Rattle.cmd_extract_contents.specs.HostFileNames.{ending_by, is_part, host_name_of_row}
use Rattle.cmd_extract.specs.Progress.{Progress, waiting_limit, progress_before_files, portion_of, orphan_stem, row_name, reported_progress, spent_progress, named_progress, written_progress, put_progress}
use Rattle.cmd_extract.specs.declared.list_state.ListState.{ListState}
use Rattle.cmd_extract.specs.declared.list_state.ListState.TheVariants.{New, Begun, GivenUp}
use Rattle.cmd_extract.specs.Work.{Work, Rename, Done, Then}
use Rattle.cmd_extract.specs.Unpacking.{unfinished_outcome, closed_progress, after_naming, name_work, put_work, wait_work, file_work, files_work, folder_work}
use Rattle.cmd_extract.specs.ListedLines.{all_into, path_of, taken_after, lines_of_rows}
use Rattle.cmd_extract.specs.UnpackLaws.{ListIsWhole}

-- the list is still tried
abbrev IsTried : ListState → Type 0
IsTried New = ⊤
IsTried Begun = ⊤
IsTried GivenUp = ⊥

-- no name that ends as those of files do is that of the list
not_the_list : (front : List ℕ) (ending : Ending) (in_part : Bool) → front ++ tail ending in_part ≢ codes "files.jsonl"
unfolding tail ending_text part_ending rests
not_the_list front ending in_part is = not_ended (codes "files.jsonl") front ending in_part refl refl is

-- so the path of a file isn't that of the list
other_named : (task : TaskView) (taken : List (List ℕ)) (text : List ℕ) (ending : Ending) (in_part : Bool)
    → bytes_eq (list_path task) (path_in task.partial (next_name taken text ending in_part)) ≡ false
other_named task taken text ending in_part =
    let name = next_name taken text ending in_part in
    let ends = name_ends taken text ending in_part in
    false_from_ne_true (bytes_eq (list_path task) (path_in task.partial name)) (λ same.
    not_the_list ends.0 ending in_part
    (sym ends.1 ∙ sym (append_cancel_left (with_slash task.partial) (codes "files.jsonl") name ((bytes_eq-Decides (list_path task) (path_in task.partial name)).0 same))))

other_path : (task : TaskView) (taken : List (List ℕ)) (row : ListedRow) (extent : Extent) → bytes_eq (list_path task) (path_in task.partial (row_name taken row extent)) ≡ false
unfolding host_name_of_row row_name
other_path task taken (File row) extent = other_named task taken (spelling (name_in row.field)) (ending_by row.kind) (is_part extent)
other_path task taken (Deleted row) extent = other_named task taken (spelling (name_in row.field)) endings.Deleted (is_part extent)
other_path task taken (Orphan row) extent = other_named task taken (orphan_stem row.first row.old) endings.Orphan (is_part extent)

-- what a work puts into the list
abbrev into_list : TaskView → Work → List ℕ
into_list task work = all_into (list_path task) work

-- renaming the folder puts nothing into the list
naming_none : (task : TaskView) (p : Progress) → into_list task (name_work task p) ≡ []
unfolding name_work all_into
naming_none task p = by_failure p.has_failed
  where
    by_failure : (failed : Bool) → into_list task (cond failed (Done (unfinished_outcome p)) (Then (Rename task.partial task.done) (after_naming task p))) ≡ []
    by_failure true = refl
    by_failure false = refl

-- a piece
put_into : (task : TaskView) (state : ListState) (p : Progress) (rest : Progress → Work) → IsTried state → into_list task (put_work state task p rest) ≡ p.lines ++ into_list task (rest (put_progress p))
unfolding put_work all_into
put_into task New p rest tried = ap (λ (t : Bool). cond t p.lines [] ++ into_list task (rest (put_progress p))) ((bytes_eq-Decides (list_path task) (list_path task)).1 refl)
put_into task Begun p rest tried = ap (λ (t : Bool). cond t p.lines [] ++ into_list task (rest (put_progress p))) ((bytes_eq-Decides (list_path task) (list_path task)).1 refl)
put_into task GivenUp p rest tried = absurd tried

-- what the files of rows put into it
abbrev HasLines : TaskView → List ListedRow → Progress → Type 0
HasLines task later p = into_list task (files_work task later p) ≡ p.lines ++ lines_of_rows task later p.left p.taken

wait_into : (task : TaskView) (later : List ListedRow) (p : Progress) → IsTried p.list → ((q : Progress) → IsTried q.list → HasLines task later q)
    → into_list task (wait_work task p (files_work task later)) ≡ p.lines ++ lines_of_rows task later p.left p.taken
unfolding wait_work
wait_into task later p tried rest = by_length (nat_lt waiting_limit (length p.lines))
  where
    by_length : (is_long : Bool) → into_list task (cond is_long (put_work p.list task p (files_work task later)) (files_work task later p)) ≡ p.lines ++ lines_of_rows task later p.left p.taken
    by_length true = put_into task p.list p (files_work task later) tried ∙ ap (λ (e : List ℕ). p.lines ++ e) (rest (put_progress p) tt)
    by_length false = rest p tried

file_into : (task : TaskView) (row : ListedRow) (later : List ListedRow) (p : Progress) (portion : Option Portion) → IsTried p.list → ((q : Progress) → IsTried q.list → HasLines task later q)
    → into_list task (file_work task row p portion (λ (q : Progress). wait_work task q (files_work task later)))
    ≡ p.lines ++ (printed_file (as_json task.setup.form) task.name task.dump.image row (path_of task row p.taken portion) ++ lines_of_rows task later p.left (taken_after row p.taken portion))
unfolding file_work reported_progress all_into
file_into task row later p None tried rest =
    wait_into task later (reported_progress task row None p) tried rest
    ∙ append_assoc p.lines (printed_file (as_json task.setup.form) task.name task.dump.image row None) (lines_of_rows task later p.left p.taken)
file_into task row later p (Some portion) tried rest =
    let file = row_name p.taken row portion.extent in
    let q = written_progress task row file (named_progress file p) in
    ap (λ (t : Bool). cond t portion.bytes [] ++ into_list task (wait_work task q (files_work task later))) (other_path task p.taken row portion.extent)
    ∙ wait_into task later q tried rest
    ∙ append_assoc p.lines (printed_file (as_json task.setup.form) task.name task.dump.image row (Some (path_in task.done file))) (lines_of_rows task later p.left (p.taken ++ file ∷ []))

files_into : (task : TaskView) (later : List ListedRow) (p : Progress) → IsTried p.list → HasLines task later p
unfolding files_work lines_of_rows closed_progress
files_into task [] p tried =
    put_into task p.list (closed_progress task p) (name_work task) tried ∙ ap (λ (e : List ℕ). p.lines ++ e) (naming_none task (put_progress (closed_progress task p)))
files_into task (row ∷ later) p tried =
    file_into task row later (spent_progress task row p) (portion_within p.left (portion_of task row)) tried (files_into task later)

pub list_is_whole : ListIsWhole
unfolding folder_work all_into
list_is_whole task = files_into task (wanted_rows (files_and task.setup.form.leftovers) task.dump) (progress_before_files task) tt
