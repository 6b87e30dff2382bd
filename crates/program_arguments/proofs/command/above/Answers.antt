use Rattle.std.proofs.Common.{◌∙◌, ap}
use Rattle.std.specs.Result.{result_from_control_flow}
use Rattle.std.proofs.lemmas.Result.{IfOk-weaker}
use Rattle.program_arguments.proofs.Additions.{added, is_made}
use Rattle.program_arguments.proofs.command.above.Goals as goal

pub returns : goal.returns
returns c = λ app sub is is_below.
    let below = is_made (c.branch-below.ensures ∙ ap result_from_control_flow c.in_ok-below.is) is_below in
    IfOk-weaker c.subcommand.result _ _ (λ new adds. added adds is below) c.subcommand.ensures
