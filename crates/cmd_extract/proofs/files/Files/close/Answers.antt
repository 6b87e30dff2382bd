use Rattle.std.proofs.Common.{rules, ◌≡◌, ◌++◌}
use Rattle.out_messages.specs.FaultLines.{too_much_line}
use Rattle.out_files.specs.Forms.{after_rows}
use Rattle.cmd_extract.specs.FilesNow.{progress_of_files}
use Rattle.cmd_extract.proofs.FileSteps.{closed_over, closed_within}
use Rattle.cmd_extract.proofs.files.Files.close.Goals as goal

pub returns-in_ok-too_much_line : goal.returns-in_ok-too_much_line
returns-in_ok-too_much_line c =
    let printed : c.print_after.new.out.items ≡ c.args.self.now.reported.printed.items ++ after_rows c.args.task.now.setup.form.format c.args.task.now.dump = search rules in
    let complained : c.too_much_line.new.out.items ≡ c.args.self.now.reported.complaint.items ++ too_much_line c.args.task.now.name = search rules in
    closed_over c.args.task.now (progress_of_files c.args.self.now) _ _ c.is_over.result printed c.is_over.ensures c.if-is_over.true complained

pub returns-else-is_over : goal.returns-else-is_over
returns-else-is_over c =
    let printed : c.print_after.new.out.items ≡ c.args.self.now.reported.printed.items ++ after_rows c.args.task.now.setup.form.format c.args.task.now.dump = search rules in
    closed_within c.args.task.now (progress_of_files c.args.self.now) _ c.is_over.result printed c.is_over.ensures c.if-is_over.false
