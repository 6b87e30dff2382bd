use Rattle.std.proofs.Common.{sym, ap, ◌∙◌}
use Rattle.std.proofs.lemmas.Result.{IfOk-weaker}
use Rattle.cmd_shell.specs.Beginnings.{blank_image}
use Rattle.cmd_shell.proofs.blank_disk.BlankDisk.image.Goals as goal

pub returns-in-Tracks35 : goal.returns-in-Tracks35
unfolding blank_image
returns-in-Tracks35 c = IfOk-weaker c.zeroed.result _ _ (λ image is. is ∙ sym (ap blank_image c.in-Tracks35.is)) c.zeroed.ensures

pub returns-in-Tracks40 : goal.returns-in-Tracks40
unfolding blank_image
returns-in-Tracks40 c = IfOk-weaker c.zeroed40.result _ _ (λ image is. is ∙ sym (ap blank_image c.in-Tracks40.is)) c.zeroed40.ensures
