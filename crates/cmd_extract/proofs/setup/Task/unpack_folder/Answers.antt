use Rattle.std.proofs.Common.{◌≡◌, List, [], ℕ, None, ap, ◌∙◌, subst}
use Rattle.cmd_extract.specs.Setup.{TaskView}
use Rattle.cmd_extract.specs.Work.{EndsWork}
use Rattle.cmd_extract.specs.Progress.{progress_before_files}
use Rattle.cmd_extract.specs.FilesNow.{progress_of_files}
use Rattle.cmd_extract.specs.Unpacking.{name_work, unmade_work, folder_work, files_work, list_work}
use Rattle.cmd_extract.proofs.Steps.{stops, further, ends_after, ends_not}
use Rattle.d64_leftovers.specs.Rows.{wanted_rows}
use Rattle.out_files.specs.Forms.{files_and}
use Rattle.cmd_extract.proofs.FolderWork.{made, not_made}
use Rattle.cmd_extract.proofs.FileSteps.{listed_after}
use Rattle.cmd_extract.proofs.setup.Task.unpack_folder.Goals as goal

pub returns-then-not-make_folder : goal.returns-then-not-make_folder
returns-then-not-make_folder g c =
    let task = c.args.self.now in
    let old = g.H.Host.state c.args.host.now in
    let now = g.H.Host.state c.make_folder.new.host in
    let buffer = c.end_unmade.new.buffer in
    let path_is : c.deref.result.now ≡ task.partial = c.deref.ensures ∙ ap (λ (t : TaskView). t.partial) c.self.view_is in
    let reported_is : c.deref-then-not-make_folder.result.now ≡ task.partial = c.deref-then-not-make_folder.ensures ∙ ap (λ (t : TaskView). t.partial) c.self.view_is in
    ends_after c.end_unmade.result buffer (folder_work task) (unmade_work task task.partial) old now now
    (not_made task c.deref.result.now old now c.make_folder.result path_is c.make_folder.ensures c.if-not-make_folder.true)
    (subst (λ (q : List ℕ). EndsWork c.end_unmade.result buffer (unmade_work task q) now now) reported_is c.end_unmade.ensures)

pub returns-in_err-unpack_files : goal.returns-in_err-unpack_files
returns-in_err-unpack_files g c =
    let task = c.args.self.now in
    let path_is : c.deref.result.now ≡ task.partial = c.deref.ensures ∙ ap (λ (t : TaskView). t.partial) c.self.view_is in
    ends_not c.from_residual.result _ _ _ _ c.from_residual.ensures.0
    (made task c.deref.result.now (g.H.Host.state c.args.host.now) (g.H.Host.state c.make_folder.new.host) c.make_folder.result path_is c.make_folder.ensures c.if-not-make_folder.false None
    (g.H.Host.state c.unpack_files.new.host) c.in_err-unpack_files.ensures)

pub returns-in_err-close : goal.returns-in_err-close
returns-in_err-close g c =
    let task = c.args.self.now in
    let path_is : c.deref.result.now ≡ task.partial = c.deref.ensures ∙ ap (λ (t : TaskView). t.partial) c.self.view_is in
    ends_not c.from_residual-in_err-close.result _ _ _ _ c.from_residual-in_err-close.ensures.0
    (made task c.deref.result.now (g.H.Host.state c.args.host.now) (g.H.Host.state c.make_folder.new.host) c.make_folder.result path_is c.make_folder.ensures c.if-not-make_folder.false None
    (g.H.Host.state c.unpack_files.new.host) (c.in_ok-unpack_files.ensures None (g.H.Host.state c.unpack_files.new.host) (stops _ _)))

pub returns-in_err-put_lines : goal.returns-in_err-put_lines
returns-in_err-put_lines g c =
    let task = c.args.self.now in
    let old = g.H.Host.state c.args.host.now in
    let now = g.H.Host.state c.put_lines.new.host in
    let path_is : c.deref.result.now ≡ task.partial = c.deref.ensures ∙ ap (λ (t : TaskView). t.partial) c.self.view_is in
    let listed = listed_after task (progress_of_files c.unpack_files.new.self) (progress_of_files c.close.new.self) (g.H.Host.state c.unpack_files.new.host) c.in_ok-close.ensures in
    ends_not c.from_residual-in_err-put_lines.result _ _ _ _ c.from_residual-in_err-put_lines.ensures.0
    (made task c.deref.result.now old (g.H.Host.state c.make_folder.new.host) c.make_folder.result path_is c.make_folder.ensures c.if-not-make_folder.false None now
    (c.in_ok-unpack_files.ensures None now (listed None now (c.in_err-put_lines.ensures (name_work task)))))

pub returns : goal.returns
returns g c =
    let task = c.args.self.now in
    let old = g.H.Host.state c.args.host.now in
    let mid = g.H.Host.state c.make_folder.new.host in
    let now = g.H.Host.state c.unpack_files.new.host in
    let put = g.H.Host.state c.put_lines.new.host in
    let p = progress_of_files c.unpack_files.new.self in
    let q = progress_of_files c.close.new.self in
    let r = progress_of_files c.put_lines.new.self in
    let path_is : c.deref.result.now ≡ task.partial = c.deref.ensures ∙ ap (λ (t : TaskView). t.partial) c.self.view_is in
    let whole = files_work task (wanted_rows (files_and task.setup.form.leftovers) task.dump) (progress_before_files task) in
    ends_after c.name_folder.result c.name_folder.new.buffer (folder_work task) (name_work task r) old put (g.H.Host.state c.name_folder.new.host)
    (further (folder_work task) whole (name_work task r) old mid put
    (made task c.deref.result.now old mid c.make_folder.result path_is c.make_folder.ensures c.if-not-make_folder.false)
    (further whole (files_work task [] p) (name_work task r) mid now put c.in_ok-unpack_files.ensures
    (further (files_work task [] p) (list_work task q) (name_work task r) now now put (listed_after task p q now c.in_ok-close.ensures)
    (c.in_ok-put_lines.ensures (name_work task))))) c.name_folder.ensures
