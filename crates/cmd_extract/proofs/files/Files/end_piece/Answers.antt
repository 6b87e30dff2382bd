use Rattle.std.proofs.Common.{◌∙◌}
use Rattle.cmd_extract.specs.Progress.{unput_progress}
use Rattle.cmd_extract.specs.FilesNow.{progress_of_files}
use Rattle.cmd_extract.specs.Unpacking.{after_putting}
use Rattle.cmd_extract.proofs.Steps.{comes_to, same_reason}
use Rattle.cmd_extract.proofs.ListSteps.{piece_unput, unput_said}
use Rattle.cmd_extract.proofs.files.Files.end_piece.Goals as goal

pub returns : goal.returns
returns g c = λ task rest path_is.
    let p = progress_of_files c.args.self.now in
    let host = g.H.Host.state c.args.host.now in
    let reason = c.reason_at-reason.result in
    comes_to c.report_failure.result (after_putting task p rest c.args.is_put) rest host host _ (unput_progress task reason p)
    (unput_said c.report_failure.result task reason p c.deref-2.result.now _ _ _ _ _ (c.deref-2.ensures.value ∙ path_is) c.report_failure.ensures.printed
    (c.report_failure.ensures.lines ∙ c.clear.ensures.items) c.report_failure.ensures.list c.report_failure.ensures.complaint c.report_failure.ensures.failed)
    (piece_unput task p rest host c.args.is_put reason c.if-is_put.false
    (same_reason c.deref.result.now _ host.files reason (c.deref.ensures.value ∙ path_is) c.reason_at-reason.ensures))
