-- The files of an image, step by step.
use Rattle.std.proofs.Common.{◌≡◌, ℕ, Bool, true, false, not, cond, List, [], ◌∷◌, ◌++◌, Option, Some, None, Result, Ok, Err, refl, sym, ap, ap₂, ◌∙◌, subst, append-nil}
use Rattle.program_console.specs.declared.reason.Reason.{Reason}
use Rattle.std.specs.Prelude.{is_some, OnOk}
use Rattle.std.specs.Str.{is_utf8}
use Rattle.host_storage.specs.Files.{HostState}
use Rattle.d64_leftovers.specs.declared.row.ListedRow.{ListedRow}
use Rattle.cmd_extract_contents.specs.Portions.{Portion}
use Rattle.cmd_extract_contents.specs.RowPortions.{row_portion}
use Rattle.cmd_extract_contents.specs.Limits.{left_after, portion_within}
use Rattle.cmd_extract_contents.specs.declared.extent.Extent.{Extent}
use Rattle.out_messages.specs.FaultLines.{too_much_line}
use Rattle.out_files.specs.Forms.{after_rows}
use Rattle.cmd_extract.specs.Extracts.{printed_file}
use Rattle.out_files.specs.Forms.{as_json}
use Rattle.cmd_extract.specs.Setup.{TaskView}
use Rattle.host_names.specs.Paths.{path_in}
use Rattle.cmd_extract.specs.Progress.{Progress, portion_of, row_name, reported_progress, spent_progress, named_progress, written_progress, unwritten_progress}
use Rattle.cmd_extract.specs.declared.list_state.ListState.{ListState}
use Rattle.cmd_extract.specs.Work.{Work, NewFile, SaysFile, IsReasonAt, LeadsTo}
use Rattle.cmd_extract.specs.Unpacking.{closed_progress, after_writing, write_work, file_work, wait_work, files_work, list_work}
use Rattle.cmd_extract.proofs.Steps.{called, explained, nothing_yet}

-- a test of whether there is no value
is_some_by : (t : Bool) (over : Bool) → over ≡ not t → over ≡ true → t ≡ false
is_some_by true over e f = absurd (let g : true ≡ false = sym f ∙ e in cc)
is_some_by false over e f = refl

not_over : (t : Bool) (over : Bool) → over ≡ not t → over ≡ false → t ≡ true
not_over true over e f = refl
not_over false over e f = absurd (let g : false ≡ true = sym f ∙ e in cc)

-- all files have come, with too many bytes
pub closed_over : (task : TaskView) (p : Progress) (printed complaint : List ℕ) (over : Bool) → printed ≡ p.printed ++ after_rows task.setup.form.format task.dump → over ≡ not (is_some p.left) → over ≡ true
    → complaint ≡ p.complaint ++ too_much_line task.name → record p { printed = printed; complaint = complaint } ≡ closed_progress task p
unfolding closed_progress
closed_over task p printed complaint over is_printed is_over is_true is_complaint =
    ap₂ (λ (a b : List ℕ). record p { printed = a; complaint = b }) is_printed
    (is_complaint ∙ sym (ap (λ (t : Bool). p.complaint ++ cond t [] (too_much_line task.name)) (is_some_by (is_some p.left) over is_over is_true)))

-- and without
pub closed_within : (task : TaskView) (p : Progress) (printed : List ℕ) (over : Bool) → printed ≡ p.printed ++ after_rows task.setup.form.format task.dump → over ≡ not (is_some p.left) → over ≡ false
    → record p { printed = printed } ≡ closed_progress task p
unfolding closed_progress
closed_within task p printed over is_printed is_over is_false =
    ap₂ (λ (a b : List ℕ). record p { printed = a; complaint = b }) is_printed
    (sym (append-nil p.complaint) ∙ sym (ap (λ (t : Bool). p.complaint ++ cond t [] (too_much_line task.name)) (not_over (is_some p.left) over is_over is_false)))

-- a file was written, or wasn't
pub wrote : (task : TaskView) (row : ListedRow) (file bytes path given : List ℕ) (p : Progress) (rest : Progress → Work) (old now : HostState) (said : Bool)
    → path ≡ path_in task.partial file → given ≡ bytes → SaysFile (is_utf8 path) path given old said now
    → LeadsTo (write_work task row file bytes p rest) old (after_writing task row file p rest said) now
wrote task row file bytes path given p rest old now said path_is given_is says =
    called (NewFile (path_in task.partial file) bytes) (after_writing task row file p rest) old now said
    (subst (λ (b : List ℕ). SaysFile (is_utf8 (path_in task.partial file)) (path_in task.partial file) b old said now) given_is
    (subst (λ (q : List ℕ). SaysFile (is_utf8 q) q given old said now) path_is says))

pub was_written : (task : TaskView) (row : ListedRow) (file : List ℕ) (p : Progress) (rest : Progress → Work) (host : HostState) (said : Bool) → said ≡ true
    → LeadsTo (after_writing task row file p rest said) host (rest (written_progress task row file p)) host
was_written task row file p rest host said is =
    subst (λ (s : Bool). LeadsTo (after_writing task row file p rest s) host (rest (written_progress task row file p)) host) (sym is) (nothing_yet (rest (written_progress task row file p)) host)

pub was_not : (task : TaskView) (row : ListedRow) (file : List ℕ) (p : Progress) (rest : Progress → Work) (host : HostState) (said : Bool) (reason : Option Reason) → said ≡ false → IsReasonAt (is_utf8 (path_in task.partial file)) host.files (path_in task.partial file) reason
    → LeadsTo (after_writing task row file p rest said) host (rest (unwritten_progress task row file reason p)) host
was_not task row file p rest host said reason is says =
    subst (λ (s : Bool). LeadsTo (after_writing task row file p rest s) host (rest (unwritten_progress task row file reason p)) host) (sym is)
    (explained (path_in task.partial file) (λ (r : Option Reason). rest (unwritten_progress task row file r p)) host reason says)

-- no file was written, and its line was added
pub reported_none : {A E : Type 0} (result : Result A E) (task : TaskView) (row : ListedRow) (p : Progress) (left : Option ℕ) (printed lines complaint : List ℕ) (list : ListState) (failed : Bool)
    → left ≡ left_after p.left (portion_of task row) → OnOk result (printed ≡ p.printed ++ printed_file task.setup.form task.name task.dump.image row None)
    → OnOk result (lines ≡ p.lines ++ printed_file (as_json task.setup.form) task.name task.dump.image row None) → complaint ≡ p.complaint → list ≡ p.list → failed ≡ p.has_failed
    → OnOk result (◌≡◌ {A = Progress} (record { left = left; taken = p.taken; printed = printed; lines = lines; list = list; complaint = complaint; has_failed = failed }) (reported_progress task row None (spent_progress task row p)))
unfolding reported_progress
reported_none (Ok done) task row p left printed lines complaint list failed l pr li co st fa =
    λ i. record { left = l i; taken = p.taken; printed = pr i; lines = li i; list = st i; complaint = co i; has_failed = fa i }
reported_none (Err fault) task row p left printed lines complaint list failed l pr li co st fa = tt

-- if this is found of the file, what there is to write is what is written
pub file_none : (task : TaskView) (row : ListedRow) (p : Progress) (portion : Option Portion) (rest : Progress → Work) → None ≡ portion
    → rest (reported_progress task row None p) ≡ file_work task row p portion rest
unfolding file_work
file_none task row p portion rest is = ap (λ (q : Option Portion). file_work task row p q rest) is

pub file_some : (task : TaskView) (row : ListedRow) (p q : Progress) (bytes file : List ℕ) (extent : Extent) (portion : Option Portion) (rest : Progress → Work)
    → Some (record { bytes = bytes; extent = extent }) ≡ portion → file ≡ row_name p.taken row extent → q ≡ named_progress file p
    → write_work task row file bytes q rest ≡ file_work task row p portion rest
unfolding file_work
file_some task row p q bytes file extent portion rest is file_is q_is =
    ap (λ (r : Progress). write_work task row file bytes r rest) q_is
    ∙ ap (λ (f : List ℕ). write_work task row f bytes (named_progress f p) rest) file_is
    ∙ ap (λ (o : Option Portion). file_work task row p o rest) is

-- what there is to write of the file of a row, by the code's condition
pub portion_same : (task : TaskView) (row : ListedRow) (with_parts : Bool) (image : List (List ℕ)) → with_parts ≡ task.setup.with_parts → image ≡ task.dump.image
    → row_portion with_parts image row ≡ portion_of task row
portion_same task row with_parts image is_parts is_image =
    ap (λ (w : Bool). row_portion w image row) is_parts ∙ ap (λ (i : List (List ℕ)). row_portion task.setup.with_parts i row) is_image

-- one more file
pub next_file : (task : TaskView) (row : ListedRow) (later all : List ListedRow) (p : Progress) → all ≡ row ∷ later
    → file_work task row (spent_progress task row p) (portion_within p.left (portion_of task row)) (λ (q : Progress). wait_work task q (files_work task later)) ≡ files_work task all p
unfolding files_work
next_file task row later all p is = sym (ap (λ (rs : List ListedRow). files_work task rs p) is)

-- the list of the files has come
pub listed_after : (task : TaskView) (p q : Progress) (host : HostState) → q ≡ closed_progress task p → LeadsTo (files_work task [] p) host (list_work task q) host
unfolding files_work
listed_after task p q host is = subst (λ (r : Progress). LeadsTo (files_work task [] p) host (list_work task r) host) (sym is) (nothing_yet (files_work task [] p) host)
