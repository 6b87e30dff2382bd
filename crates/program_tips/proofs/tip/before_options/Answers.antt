use Rattle.std.proofs.Common.{ap, sym, map, take, ◌∙◌}
use Rattle.std.proofs.lemmas.List.{take-map}
use Rattle.program_tips.specs.Meant.{is_option}
use Rattle.program_tips.proofs.Arguments.{place_of_text}
use Rattle.program_tips.proofs.tip.before_options.Goals as goal

pub returns : goal.returns
returns c =
    ap (λ n. map (λ argument. argument.now) (take n c.args.arguments.now)) (c.count_before_options.ensures ∙ place_of_text (λ argument. argument.now) is_option c.args.arguments.now)
    ∙ sym (take-map (λ argument. argument.now) _ c.args.arguments.now)
