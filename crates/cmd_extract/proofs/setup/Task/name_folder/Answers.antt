use Rattle.std.proofs.Common.{◌≡◌, List, ℕ, Ok, ap, ◌∙◌, subst}
use Rattle.cmd_extract.specs.Setup.{TaskView}
use Rattle.cmd_extract.specs.Work.{Work, Done, CallReturns, Rename, EndsWork}
use Rattle.cmd_extract.specs.FilesNow.{progress_of_files}
use Rattle.cmd_extract.specs.Unpacking.{finished_outcome, unfinished_outcome, unnamed_outcome, after_naming, name_work}
use Rattle.cmd_extract.proofs.Steps.{further, ends_after, ends_with, same_reason}
use Rattle.cmd_extract.proofs.FolderWork.{not_named, renamed, named, unnamed}
use Rattle.cmd_extract.proofs.setup.Task.name_folder.Goals as goal

pub returns-then-files : goal.returns-then-files
returns-then-files g c =
    let task = c.args.self.now in
    let p = progress_of_files c.args.files.now in
    let host = g.H.Host.state c.args.host.now in
    subst (λ (w : Work). EndsWork {E = Unit {0}} (Ok c.report_unfinished.result) c.report_unfinished.new.buffer w host host)
    (not_named task p c.if-files.true)
    (ends_with {E = Unit {0}} (Ok c.report_unfinished.result) c.report_unfinished.new.buffer (unfinished_outcome p) host c.report_unfinished.ensures)

pub returns-then-rename : goal.returns-then-rename
returns-then-rename g c =
    let task = c.args.self.now in
    let p = progress_of_files c.args.files.now in
    let old = g.H.Host.state c.args.host.now in
    let now = g.H.Host.state c.rename.new.host in
    let partial_is : c.deref.result.now ≡ task.partial = c.deref.ensures ∙ ap (λ (t : TaskView). t.partial) c.self.view_is in
    let done_is : c.deref-2.result.now ≡ task.done = c.deref-2.ensures ∙ ap (λ (t : TaskView). t.done) c.self.view_is in
    let says : CallReturns (Rename task.partial task.done) old c.rename.result now =
    subst (λ (q : List ℕ). CallReturns (Rename task.partial q) old c.rename.result now) done_is
    (subst (λ (q : List ℕ). CallReturns (Rename q c.deref-2.result.now) old c.rename.result now) partial_is c.rename.ensures) in
    ends_after {E = Unit {0}} (Ok c.report_finished.result) c.report_finished.new.buffer (name_work task p) (Done (finished_outcome task p)) old now now
    (further _ (after_naming task p c.rename.result) _ old now now (renamed task p old now c.rename.result c.if-files.false says) (named task p now c.rename.result c.if-rename.true))
    (ends_with {E = Unit {0}} (Ok c.report_finished.result) c.report_finished.new.buffer (finished_outcome task p) now c.report_finished.ensures)

pub returns-else-rename : goal.returns-else-rename
returns-else-rename g c =
    let task = c.args.self.now in
    let p = progress_of_files c.args.files.now in
    let old = g.H.Host.state c.args.host.now in
    let now = g.H.Host.state c.rename.new.host in
    let reason = c.reason_at-reason.result in
    let partial_is : c.deref.result.now ≡ task.partial = c.deref.ensures ∙ ap (λ (t : TaskView). t.partial) c.self.view_is in
    let done_is : c.deref-2.result.now ≡ task.done = c.deref-2.ensures ∙ ap (λ (t : TaskView). t.done) c.self.view_is in
    let says : CallReturns (Rename task.partial task.done) old c.rename.result now =
    subst (λ (q : List ℕ). CallReturns (Rename task.partial q) old c.rename.result now) done_is
    (subst (λ (q : List ℕ). CallReturns (Rename q c.deref-2.result.now) old c.rename.result now) partial_is c.rename.ensures) in
    ends_after c.report_unnamed.result c.report_unnamed.new.buffer (name_work task p) (Done (unnamed_outcome task p reason)) old now now
    (further _ (after_naming task p c.rename.result) _ old now now (renamed task p old now c.rename.result c.if-files.false says)
    (unnamed task p now c.rename.result reason c.if-rename.false (same_reason c.as_bytes.result.now _ now.files reason (c.as_bytes.ensures.value ∙ ap (λ (t : TaskView). t.done) c.self.view_is) c.reason_at-reason.ensures)))
    (ends_with c.report_unnamed.result c.report_unnamed.new.buffer (unnamed_outcome task p reason) now c.report_unnamed.ensures)
