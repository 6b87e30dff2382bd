use Rattle.std.proofs.Common.{ap, length, ◌∙◌}
use Rattle.std.specs.Prelude.{unwrap_or}
use Rattle.program_tips.specs.Meant.{is_option}
use Rattle.program_tips.proofs.Arguments.{place_or_length}
use Rattle.program_tips.proofs.tip.count_before_options.Goals as goal

pub returns : goal.returns
returns c =
    c.unwrap_or.ensures ∙ ap (λ place. unwrap_or place (length c.args.arguments.now)) c.first_option.ensures ∙ place_or_length (λ argument. is_option argument.now) c.args.arguments.now
