-- The list of an image's files, piece by piece.
use Rattle.std.proofs.Common.{◌≡◌, ℕ, Bool, true, false, cond, List, [], ◌++◌, length, Option, Result, Ok, Err, sym, ap, ◌∙◌, subst}
use Rattle.std.specs.Prelude.{nat_lt, OnOk}
use Rattle.std.specs.Str.{is_utf8}
use Rattle.host_storage.specs.Files.{HostState}
use Rattle.out_messages.specs.FaultLines.{unwritten_line}
use Rattle.program_console.specs.Reasons.{with_known_reason}
use Rattle.program_console.specs.declared.reason.Reason.{Reason}
use Rattle.cmd_extract.specs.Setup.{TaskView, list_path}
use Rattle.cmd_extract.specs.Progress.{Progress, waiting_limit, put_progress, unput_progress, dropped_progress}
use Rattle.cmd_extract.specs.declared.list_state.ListState.{ListState}
use Rattle.cmd_extract.specs.declared.list_state.ListState.TheVariants.{New, Begun, GivenUp}
use Rattle.cmd_extract.specs.Work.{Work, NewFile, MoreOfFile, SaysFile, SaysMore, IsReasonAt, LeadsTo}
use Rattle.cmd_extract.specs.Unpacking.{after_putting, put_work, wait_work}
use Rattle.cmd_extract.proofs.Steps.{called, explained, nothing_yet}

-- a piece was put
pub piece_put : (task : TaskView) (p : Progress) (rest : Progress → Work) (host : HostState) (is_put : Bool) → is_put ≡ true → LeadsTo (after_putting task p rest is_put) host (rest (put_progress p)) host
piece_put task p rest host is_put is =
    subst (λ (s : Bool). LeadsTo (after_putting task p rest s) host (rest (put_progress p)) host) (sym is) (nothing_yet (rest (put_progress p)) host)

-- or wasn't
pub piece_unput : (task : TaskView) (p : Progress) (rest : Progress → Work) (host : HostState) (is_put : Bool) (reason : Option Reason) → is_put ≡ false → IsReasonAt (is_utf8 (list_path task)) host.files (list_path task) reason
    → LeadsTo (after_putting task p rest is_put) host (rest (unput_progress task reason p)) host
piece_unput task p rest host is_put reason is says =
    subst (λ (s : Bool). LeadsTo (after_putting task p rest s) host (rest (unput_progress task reason p)) host) (sym is)
    (explained (list_path task) (λ (r : Option Reason). rest (unput_progress task r p)) host reason says)

-- that was said
pub unput_said : {A E : Type 0} (result : Result A E) (task : TaskView) (reason : Option Reason) (p : Progress) (path printed lines complaint : List ℕ) (list : ListState) (failed : Bool)
    → path ≡ list_path task → printed ≡ p.printed → lines ≡ [] → list ≡ GivenUp → OnOk result (complaint ≡ with_known_reason reason (p.complaint ++ unwritten_line path)) → failed ≡ true
    → OnOk result (record p { printed = printed; lines = lines; list = list; complaint = complaint; has_failed = failed } ≡ unput_progress task reason p)
unput_said (Ok done) task reason p path printed lines complaint list failed path_is pr li st co fa =
    let full : complaint ≡ with_known_reason reason (p.complaint ++ unwritten_line (list_path task)) = co ∙ ap (λ (q : List ℕ). with_known_reason reason (p.complaint ++ unwritten_line q)) path_is in
    λ i. record p { printed = pr i; lines = li i; list = st i; complaint = full i; has_failed = fa i }
unput_said (Err fault) task reason p path printed lines complaint list failed path_is pr li st co fa = tt

-- the list was made, or was to be
pub put_new : (task : TaskView) (p : Progress) (rest : Progress → Work) (state : ListState) (path lines : List ℕ) (old now : HostState) (said : Bool) → state ≡ New → path ≡ list_path task → lines ≡ p.lines
    → SaysFile (is_utf8 path) path lines old said now → LeadsTo (put_work state task p rest) old (after_putting task p rest said) now
unfolding put_work
put_new task p rest state path lines old now said is_new is_path is_lines says =
    subst (λ (s : ListState). LeadsTo (put_work s task p rest) old (after_putting task p rest said) now) (sym is_new)
    (called (NewFile (list_path task) p.lines) (after_putting task p rest) old now said
    (subst (λ (b : List ℕ). SaysFile (is_utf8 (list_path task)) (list_path task) b old said now) is_lines
    (subst (λ (q : List ℕ). SaysFile (is_utf8 q) q lines old said now) is_path says)))

-- more of it was
pub put_more : (task : TaskView) (p : Progress) (rest : Progress → Work) (state : ListState) (path lines : List ℕ) (old now : HostState) (said : Bool) → state ≡ Begun → path ≡ list_path task → lines ≡ p.lines
    → SaysMore (is_utf8 path) path lines old said now → LeadsTo (put_work state task p rest) old (after_putting task p rest said) now
unfolding put_work
put_more task p rest state path lines old now said is_begun is_path is_lines says =
    subst (λ (s : ListState). LeadsTo (put_work s task p rest) old (after_putting task p rest said) now) (sym is_begun)
    (called (MoreOfFile (list_path task) p.lines) (after_putting task p rest) old now said
    (subst (λ (b : List ℕ). SaysMore (is_utf8 (list_path task)) (list_path task) b old said now) is_lines
    (subst (λ (q : List ℕ). SaysMore (is_utf8 q) q lines old said now) is_path says)))

-- no more of it is tried
pub put_none : (task : TaskView) (p : Progress) (rest : Progress → Work) (state : ListState) (host : HostState) → state ≡ GivenUp → LeadsTo (put_work state task p rest) host (rest (dropped_progress p)) host
unfolding put_work
put_none task p rest state host is =
    subst (λ (s : ListState). LeadsTo (put_work s task p rest) host (rest (dropped_progress p)) host) (sym is) (nothing_yet (rest (dropped_progress p)) host)

-- the lines that wait have passed the limit, or haven't
pub waited_long : (task : TaskView) (p : Progress) (rest : Progress → Work) → nat_lt waiting_limit (length p.lines) ≡ true → put_work p.list task p rest ≡ wait_work task p rest
unfolding wait_work
waited_long task p rest is = sym (ap (λ (t : Bool). cond t (put_work p.list task p rest) (rest p)) is)

pub waited_short : (task : TaskView) (p : Progress) (rest : Progress → Work) → nat_lt waiting_limit (length p.lines) ≡ false → rest p ≡ wait_work task p rest
unfolding wait_work
waited_short task p rest is = sym (ap (λ (t : Bool). cond t (put_work p.list task p rest) (rest p)) is)
