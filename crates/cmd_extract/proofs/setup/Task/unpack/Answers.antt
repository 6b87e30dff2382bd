use Rattle.std.proofs.Common.{◌≡◌, List, ℕ, ap, ◌∙◌, subst}
use Rattle.std.specs.Prelude.{IfOk}
use Rattle.program_surveys.specs.declared.report.Verdict.{Verdict}
use Rattle.cmd_extract.specs.Setup.{TaskView}
use Rattle.cmd_extract.specs.Work.{Done, outcome_in}
use Rattle.cmd_extract.specs.Unpacking.{present_outcome, folders_work, folder_after, present_work, task_work_with}
use Rattle.cmd_extract.proofs.Steps.{further, ends_after, ends_with}
use Rattle.host_names.specs.Paths.{path_inside}
use Rattle.host_names.proofs.FolderLists.{texts}
use Rattle.cmd_extract.proofs.FolderWork.{is_done, not_done, is_begun, not_begun}
use Rattle.cmd_extract.proofs.setup.Task.unpack.Goals as goal

pub returns-then-is_there : goal.returns-then-is_there
returns-then-is_there g c =
    let task = c.args.self.now in
    let folders = texts c.args.folders.now in
    let host = g.H.Host.state c.args.host.now in
    let done_is : c.deref.result.now ≡ task.done = c.deref.ensures ∙ ap (λ (t : TaskView). t.done) c.self.view_is in
    ends_after c.end_present.result c.end_present.new.buffer (task_work_with task folders) (present_work task) host host host
    (is_done task folders c.deref.result.now host host c.is_there.result done_is c.is_there.ensures c.if-is_there.true) c.end_present.ensures

pub returns-then-is_there-2 : goal.returns-then-is_there-2
returns-then-is_there-2 g c =
    let task = c.args.self.now in
    let folders = texts c.args.folders.now in
    let host = g.H.Host.state c.args.host.now in
    let buffer = c.report_present.new.buffer in
    let done_is : c.deref.result.now ≡ task.done = c.deref.ensures ∙ ap (λ (t : TaskView). t.done) c.self.view_is in
    let partial_is : c.deref-2.result.now ≡ task.partial = c.deref-2.ensures ∙ ap (λ (t : TaskView). t.partial) c.self.view_is in
    let reported_is : c.deref-then-is_there-2.result.now ≡ task.partial = c.deref-then-is_there-2.ensures ∙ ap (λ (t : TaskView). t.partial) c.self.view_is in
    ends_after c.report_present.result buffer (task_work_with task folders) (Done (present_outcome task task.partial)) host host host
    (further _ _ _ _ _ _ (not_done task folders c.deref.result.now host host c.is_there.result done_is c.is_there.ensures c.if-is_there.false)
    (is_begun task folders c.deref-2.result.now host host c.is_there-2.result partial_is c.is_there-2.ensures c.if-is_there-2.true))
    (ends_with c.report_present.result buffer (present_outcome task task.partial) host
    (subst (λ (q : List ℕ). IfOk c.report_present.result (λ (v : Verdict). outcome_in buffer v ≡ present_outcome task q)) reported_is c.report_present.ensures))

pub returns : goal.returns
returns g c =
    let task = c.args.self.now in
    let folders = texts c.args.folders.now in
    let host = g.H.Host.state c.args.host.now in
    let done_is : c.deref.result.now ≡ task.done = c.deref.ensures ∙ ap (λ (t : TaskView). t.done) c.self.view_is in
    let partial_is : c.deref-2.result.now ≡ task.partial = c.deref-2.ensures ∙ ap (λ (t : TaskView). t.partial) c.self.view_is in
    ends_after c.unpack_below.result c.unpack_below.new.buffer (task_work_with task folders) (folders_work (folder_after task) (path_inside task.setup.into) folders) host host
    (g.H.Host.state c.unpack_below.new.host)
    (further _ _ _ _ _ _ (not_done task folders c.deref.result.now host host c.is_there.result done_is c.is_there.ensures c.if-is_there.false)
    (not_begun task folders c.deref-2.result.now host host c.is_there-2.result partial_is c.is_there-2.ensures c.if-is_there-2.false))
    c.unpack_below.ensures
