use Rattle.std.proofs.Common.{◌≡◌, ◌++◌, ◌∙◌, ap, rules, length, take, string_bytes}
use Rattle.std.specs.List.{flat_map}
use Rattle.std.proofs.Math.Seq.{take-length}
use Rattle.program_tips.specs.Tip.{line_argument}
use Rattle.program_tips.proofs.Arguments.{flat_map_texts}
use Rattle.program_tips.proofs.tip.push_arguments.Goals as goal

pub returns : goal.returns
returns c =
    let arguments = c.args.arguments.now in
    let at_end : c.loop-argument.argument-index ≡ length arguments = search rules in
    let taken = ap (λ count. flat_map (λ argument. line_argument argument.now) (take count arguments)) at_end ∙ ap (flat_map (λ argument. line_argument argument.now)) (take-length arguments) in
    c.loop-argument.invariant ∙ ap (λ line. string_bytes c.args.line.now ++ line) (taken ∙ flat_map_texts (λ argument. argument.now) line_argument arguments)
