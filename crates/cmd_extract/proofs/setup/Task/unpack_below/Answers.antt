use Rattle.std.proofs.Common.{◌≡◌, List, ℕ, Option, ap, ◌∙◌, subst, string_bytes, String, Global}
use Rattle.cmd_extract.specs.Setup.{ExtractSetupView, TaskView}
use Rattle.cmd_extract.specs.Work.{EndsWork, LeadsTo}
use Rattle.cmd_extract.specs.Unpacking.{unmade_work, folders_work, folder_after}
use Rattle.cmd_extract.proofs.Steps.{stops, ends_after, ends_not}
use Rattle.std.specs.Prelude.{option_map}
use Rattle.host_names.specs.Paths.{path_inside}
use Rattle.host_names.proofs.FolderLists.{texts}
use Rattle.cmd_extract.proofs.setup.Task.unpack_below.Goals as goal

pub returns-in_err-start : goal.returns-in_err-start
returns-in_err-start g c = ends_not c.from_residual.result _ _ _ _ c.from_residual.ensures.0 (stops _ _)

pub returns-in-Some : goal.returns-in-Some
returns-in-Some g c =
    let task = c.args.self.now in
    let folders = texts c.args.folders.now in
    let old = g.H.Host.state c.args.host.now in
    let now = g.H.Host.state c.have_folders.new.host in
    let buffer = c.end_unmade.new.buffer in
    let path = string_bytes c.in-Some.path in
    let start_is : string_bytes c.in_ok-start.start ≡ path_inside task.setup.into =
    c.in_ok-start.ensures
    ∙ ap path_inside (c.deref.ensures ∙ ap (λ (s : ExtractSetupView). s.into) c.setup.view_is ∙ ap (λ (t : TaskView). t.setup.into) c.self.view_is) in
    ends_after c.end_unmade.result buffer (folders_work (folder_after task) (path_inside task.setup.into) folders) (unmade_work task path) old now now
    (subst (λ (s : List ℕ). LeadsTo (folders_work (folder_after task) s folders) old (unmade_work task path) now) start_is
    (subst (λ (o : Option (String Global)). LeadsTo (folders_work (folder_after task) (string_bytes c.in_ok-start.start) folders) old (folder_after task (option_map string_bytes o)) now) c.in-Some.is
    (c.in_ok-path.ensures (folder_after task))))
    (subst (λ (q : List ℕ). EndsWork c.end_unmade.result buffer (unmade_work task q) now now) c.deref-in-Some.ensures c.end_unmade.ensures)
