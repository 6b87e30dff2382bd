use Rattle.std.proofs.Common.{◌≡◌, rules}
use Rattle.host_names.specs.Paths.{path_in}
use Rattle.cmd_extract.specs.Progress.{written_progress, unwritten_progress}
use Rattle.cmd_extract.specs.FilesNow.{progress_of_files}
use Rattle.cmd_extract.specs.Unpacking.{after_writing, write_work}
use Rattle.cmd_extract.proofs.Steps.{stops, further, comes_to, comes_not, same_reason}
use Rattle.cmd_extract.proofs.FileSteps.{wrote, was_written, was_not}
use Rattle.cmd_extract.proofs.files.Files.write_file.Goals as goal

pub returns-in_err-put_path : goal.returns-in_err-put_path
returns-in_err-put_path g c = λ rest. comes_not c.from_residual.result _ _ _ _ c.from_residual.ensures.0 (stops _ _)

pub returns-then-make_file : goal.returns-then-make_file
returns-then-make_file g c = λ rest.
    let task = c.args.task.now in
    let row = c.args.row.now in
    let file = c.args.self.now.name.items in
    let p = progress_of_files c.args.self.now in
    let old = g.H.Host.state c.args.host.now in
    let now = g.H.Host.state c.make_file.new.host in
    let path_is : c.deref-3.result.now ≡ path_in task.partial file = search rules in
    comes_to c.report_written.result (write_work task row file c.args.self.now.bytes.items p rest) rest old now
    (progress_of_files c.report_written.new.self) (written_progress task row file p) c.report_written.ensures
    (further _ (after_writing task row file p rest c.make_file.result) _ old now now
    (wrote task row file c.args.self.now.bytes.items c.deref-3.result.now c.deref-4.result.now p rest old now c.make_file.result path_is c.deref-4.ensures.value c.make_file.ensures)
    (was_written task row file p rest now c.make_file.result c.if-make_file.true))

pub returns-else-make_file : goal.returns-else-make_file
returns-else-make_file g c = λ rest.
    let task = c.args.task.now in
    let row = c.args.row.now in
    let file = c.args.self.now.name.items in
    let p = progress_of_files c.args.self.now in
    let old = g.H.Host.state c.args.host.now in
    let now = g.H.Host.state c.make_file.new.host in
    let reason = c.reason_at-reason.result in
    let path_is : c.deref-3.result.now ≡ path_in task.partial file = search rules in
    comes_to c.report_unwritten.result (write_work task row file c.args.self.now.bytes.items p rest) rest old now
    (progress_of_files c.report_unwritten.new.self) (unwritten_progress task row file reason p) c.report_unwritten.ensures
    (further _ (after_writing task row file p rest c.make_file.result) _ old now now
    (wrote task row file c.args.self.now.bytes.items c.deref-3.result.now c.deref-4.result.now p rest old now c.make_file.result path_is c.deref-4.ensures.value c.make_file.ensures)
    (was_not task row file p rest now c.make_file.result reason c.if-make_file.false
    (same_reason c.deref-else-make_file.result.now _ now.files reason (search rules) c.reason_at-reason.ensures)))
