-- The folder of an image, step by step.
use Rattle.std.proofs.Common.{◌≡◌, ℕ, Bool, true, false, cond, List, Option, sym, ap, subst}
use Rattle.std.specs.Str.{is_utf8}
use Rattle.program_console.specs.declared.reason.Reason.{Reason}
use Rattle.host_storage.specs.Files.{HostState}
use Rattle.d64_leftovers.specs.Rows.{wanted_rows}
use Rattle.out_files.specs.Forms.{files_and}
use Rattle.cmd_extract.specs.Setup.{TaskView, list_in}
use Rattle.host_names.specs.Paths.{path_inside}
use Rattle.cmd_extract.specs.Progress.{Progress, progress_before_files}
use Rattle.cmd_extract.specs.Work.{Work, Done, Then, Why, Look, NewFolder, Rename, CallReturns, IsReasonAt, LeadsTo}
use Rattle.cmd_extract.specs.Unpacking.{unfinished_outcome, finished_outcome, unnamed_outcome, unmade_outcome, present_outcome, skipped_outcome, after_naming, name_work, unmade_work, files_work, folder_work, folders_work, folder_after, present_work, task_work_with}
use Rattle.cmd_extract.proofs.Steps.{called, explained, further, nothing_yet}

-- a write failed, and nothing more is done
pub not_named : (task : TaskView) (p : Progress) → p.has_failed ≡ true → Done (unfinished_outcome p) ≡ name_work task p
unfolding name_work
not_named task p failed = sym (ap (λ (t : Bool). cond t (Done (unfinished_outcome p)) (Then (Rename task.partial task.done) (after_naming task p))) failed)

-- the folder is given its name
pub renamed : (task : TaskView) (p : Progress) (old now : HostState) (said : Bool) → p.has_failed ≡ false → CallReturns (Rename task.partial task.done) old said now
    → LeadsTo (name_work task p) old (after_naming task p said) now
unfolding name_work
renamed task p old now said unfailed says =
    subst (λ (t : Bool). LeadsTo (cond t (Done (unfinished_outcome p)) (Then (Rename task.partial task.done) (after_naming task p))) old (after_naming task p said) now) (sym unfailed)
    (called (Rename task.partial task.done) (after_naming task p) old now said says)

-- it has it
pub named : (task : TaskView) (p : Progress) (host : HostState) (said : Bool) → said ≡ true → LeadsTo (after_naming task p said) host (Done (finished_outcome task p)) host
named task p host said is =
    subst (λ (s : Bool). LeadsTo (after_naming task p s) host (Done (finished_outcome task p)) host) (sym is) (nothing_yet (Done (finished_outcome task p)) host)

-- or hasn't
pub unnamed : (task : TaskView) (p : Progress) (host : HostState) (said : Bool) (reason : Option Reason) → said ≡ false → IsReasonAt (is_utf8 task.done) host.files task.done reason
    → LeadsTo (after_naming task p said) host (Done (unnamed_outcome task p reason)) host
unnamed task p host said reason is says =
    subst (λ (s : Bool). LeadsTo (after_naming task p s) host (Done (unnamed_outcome task p reason)) host) (sym is)
    (explained task.done (λ (r : Option Reason). Done (unnamed_outcome task p r)) host reason says)

-- what a folder that cannot be made is called
abbrev named_folder : TaskView → List ℕ → Bool → List ℕ
named_folder task path is_there = cond is_there path task.setup.into

-- a folder cannot be made, and the host gave the reason
unmade : (task : TaskView) (path into : List ℕ) (host : HostState) (said : Bool) (reason : Option Reason) → into ≡ task.setup.into → CallReturns (Look into) host said host → IsReasonAt (is_utf8 path) host.files path reason
    → LeadsTo (unmade_work task path) host (Done (unmade_outcome task (named_folder task path said) reason)) host
unfolding unmade_work
unmade task path into host said reason is_into says why =
    further _ (Why path (λ (r : Option Reason). Done (unmade_outcome task (named_folder task path said) r))) _ host host host
    (called (Look task.setup.into) (λ is_there. Why path (λ reason. Done (unmade_outcome task (named_folder task path is_there) reason))) host host said
    (subst (λ (q : List ℕ). CallReturns (Look q) host said host) is_into says))
    (explained path (λ (r : Option Reason). Done (unmade_outcome task (named_folder task path said) r)) host reason why)

pub unmade_at : (task : TaskView) (path into : List ℕ) (host : HostState) (said : Bool) (reason : Option Reason) → into ≡ task.setup.into → CallReturns (Look into) host said host → IsReasonAt (is_utf8 path) host.files path reason → said ≡ true
    → LeadsTo (unmade_work task path) host (Done (unmade_outcome task path reason)) host
unmade_at task path into host said reason is_into says why is =
    subst (λ (s : Bool). LeadsTo (unmade_work task path) host (Done (unmade_outcome task (named_folder task path s) reason)) host) is (unmade task path into host said reason is_into says why)

pub unmade_below : (task : TaskView) (path into : List ℕ) (host : HostState) (said : Bool) (reason : Option Reason) → into ≡ task.setup.into → CallReturns (Look into) host said host → IsReasonAt (is_utf8 path) host.files path reason → said ≡ false
    → LeadsTo (unmade_work task path) host (Done (unmade_outcome task task.setup.into reason)) host
unmade_below task path into host said reason is_into says why is =
    subst (λ (s : Bool). LeadsTo (unmade_work task path) host (Done (unmade_outcome task (named_folder task path s) reason)) host) is (unmade task path into host said reason is_into says why)

-- the image's folder was made
pub made : (task : TaskView) (path : List ℕ) (old now : HostState) (said : Bool) → path ≡ task.partial → CallReturns (NewFolder path) old said now → said ≡ true
    → LeadsTo (folder_work task) old (files_work task (wanted_rows (files_and task.setup.form.leftovers) task.dump) (progress_before_files task)) now
unfolding folder_work
made task path old now said is_path says is_said =
    called (NewFolder task.partial) (λ is_made. cond is_made (files_work task (wanted_rows (files_and task.setup.form.leftovers) task.dump) (progress_before_files task)) (unmade_work task task.partial)) old now true
    (subst (λ (s : Bool). CallReturns (NewFolder task.partial) old s now) is_said (subst (λ (q : List ℕ). CallReturns (NewFolder q) old said now) is_path says))

-- or wasn't
pub not_made : (task : TaskView) (path : List ℕ) (old now : HostState) (said : Bool) → path ≡ task.partial → CallReturns (NewFolder path) old said now → said ≡ false
    → LeadsTo (folder_work task) old (unmade_work task task.partial) now
unfolding folder_work
not_made task path old now said is_path says is_said =
    called (NewFolder task.partial) (λ is_made. cond is_made (files_work task (wanted_rows (files_and task.setup.form.leftovers) task.dump) (progress_before_files task)) (unmade_work task task.partial)) old now false
    (subst (λ (s : Bool). CallReturns (NewFolder task.partial) old s now) is_said (subst (λ (q : List ℕ). CallReturns (NewFolder q) old said now) is_path says))

-- what comes after the look at the folder that isn't there
abbrev after_look : TaskView → List (List ℕ) → Work
after_look task folders =
    Then (Look task.partial) (λ is_begun. cond is_begun (Done (present_outcome task task.partial)) (folders_work (folder_after task) (path_inside task.setup.into) folders))

abbrev look_work : TaskView → List (List ℕ) → Work
look_work task folders = Then (Look task.done) (λ is_done. cond is_done (present_work task) (after_look task folders))

-- the image's folder is there
pub is_done : (task : TaskView) (folders : List (List ℕ)) (path : List ℕ) (old now : HostState) (said : Bool) → path ≡ task.done → CallReturns (Look path) old said now → said ≡ true
    → LeadsTo (task_work_with task folders) old (present_work task) now
unfolding task_work_with
is_done task folders path old now said is_path says is_said =
    called (Look task.done) (λ is_done. cond is_done (present_work task) (after_look task folders)) old now true
    (subst (λ (s : Bool). CallReturns (Look task.done) old s now) is_said (subst (λ (q : List ℕ). CallReturns (Look q) old said now) is_path says))

-- what is there is not to be passed over
pub not_skipped : (task : TaskView) → task.setup.skips ≡ false → Done (present_outcome task task.done) ≡ present_work task
unfolding present_work
not_skipped task is =
    sym (ap (λ (t : Bool). cond t (Then (Look (list_in task.done)) (λ is_complete. Done (cond is_complete (skipped_outcome task) (present_outcome task task.done)))) (Done (present_outcome task task.done))) is)

-- it may be, and it was looked for the list in it
pub looked_into : (task : TaskView) (path : List ℕ) (host : HostState) (said : Bool) → task.setup.skips ≡ true → path ≡ list_in task.done → CallReturns (Look path) host said host
    → LeadsTo (present_work task) host (Done (cond said (skipped_outcome task) (present_outcome task task.done))) host
unfolding present_work
looked_into task path host said is is_path says =
    subst (λ (t : Bool). LeadsTo (cond t (Then (Look (list_in task.done)) (λ is_complete. Done (cond is_complete (skipped_outcome task) (present_outcome task task.done)))) (Done (present_outcome task task.done))) host
    (Done (cond said (skipped_outcome task) (present_outcome task task.done))) host) (sym is)
    (called (Look (list_in task.done)) (λ is_complete. Done (cond is_complete (skipped_outcome task) (present_outcome task task.done))) host host said
    (subst (λ (q : List ℕ). CallReturns (Look q) host said host) is_path says))

-- it isn't
pub not_done : (task : TaskView) (folders : List (List ℕ)) (path : List ℕ) (old now : HostState) (said : Bool) → path ≡ task.done → CallReturns (Look path) old said now → said ≡ false
    → LeadsTo (task_work_with task folders) old (after_look task folders) now
unfolding task_work_with
not_done task folders path old now said is_path says is_said =
    called (Look task.done) (λ is_done. cond is_done (present_work task) (after_look task folders)) old now false
    (subst (λ (s : Bool). CallReturns (Look task.done) old s now) is_said (subst (λ (q : List ℕ). CallReturns (Look q) old said now) is_path says))

-- what it is before is there
pub is_begun : (task : TaskView) (folders : List (List ℕ)) (path : List ℕ) (old now : HostState) (said : Bool) → path ≡ task.partial → CallReturns (Look path) old said now → said ≡ true
    → LeadsTo (after_look task folders) old (Done (present_outcome task task.partial)) now
is_begun task folders path old now said is_path says is_said =
    called (Look task.partial) (λ is_begun. cond is_begun (Done (present_outcome task task.partial)) (folders_work (folder_after task) (path_inside task.setup.into) folders)) old now true
    (subst (λ (s : Bool). CallReturns (Look task.partial) old s now) is_said (subst (λ (q : List ℕ). CallReturns (Look q) old said now) is_path says))

-- neither is
pub not_begun : (task : TaskView) (folders : List (List ℕ)) (path : List ℕ) (old now : HostState) (said : Bool) → path ≡ task.partial → CallReturns (Look path) old said now → said ≡ false
    → LeadsTo (after_look task folders) old (folders_work (folder_after task) (path_inside task.setup.into) folders) now
not_begun task folders path old now said is_path says is_said =
    called (Look task.partial) (λ is_begun. cond is_begun (Done (present_outcome task task.partial)) (folders_work (folder_after task) (path_inside task.setup.into) folders)) old now false
    (subst (λ (s : Bool). CallReturns (Look task.partial) old s now) is_said (subst (λ (q : List ℕ). CallReturns (Look q) old said now) is_path says))
