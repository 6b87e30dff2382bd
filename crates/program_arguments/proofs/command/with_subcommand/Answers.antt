use Rattle.std.proofs.Common.{◌∙◌, ap}
use Rattle.std.specs.Result.{result_from_control_flow}
use Rattle.program_arguments.proofs.Additions.{is_made}
use Rattle.program_arguments.proofs.command.with_subcommand.Goals as goal

pub returns : goal.returns
returns c = λ app is. c.above.ensures _ _ (is_made (c.branch-command.ensures ∙ ap result_from_control_flow c.in_ok-command.is) is) c.command.ensures
