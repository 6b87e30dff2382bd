use Rattle.std.proofs.Common.{◌∙◌, ap}
use Rattle.std.specs.Result.{result_from_control_flow}
use Rattle.std.proofs.lemmas.Result.{IfOk-weaker}
use Rattle.program_arguments.proofs.Additions.{is_made, with_one}
use Rattle.program_arguments.proofs.arguments.with_argument.Goals as goal

pub returns : goal.returns
returns c = λ app is.
    let made = is_made (c.branch-command.ensures ∙ ap result_from_control_flow c.in_ok-command.is) is in
    IfOk-weaker c.arg-2.result _ _ (λ new adds. with_one adds made c.arg.ensures) c.arg-2.ensures
