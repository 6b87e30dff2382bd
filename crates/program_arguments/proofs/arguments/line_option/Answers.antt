-- The letter and the action are put into the rule of the long name's option.
use Rattle.std.proofs.Common.{Some, ap, ◌∙◌}
use Rattle.clap.specs.Words.{Rule, rule_of}
use Rattle.clap.specs.declared.builder.action.ArgAction.TheVariants.{Append}
use Rattle.clap.specs.declared.builder.arg.Arg.{Arg}
use Rattle.program_arguments.proofs.arguments.line_option.Goals as goal

pub returns-clause-rule : goal.returns-clause-rule
returns-clause-rule c =
    let repeats : Arg → Arg = λ arg. record arg { action = Some Append } in
    let with_letter : Rule → Rule = λ rule. record rule { short = Some 99; action = Some Append } in
    ap rule_of (c.action.ensures ∙ ap repeats c.short.ensures) ∙ ap with_letter c.valued_option.ensures.rule
