use Rattle.std.proofs.Common.{◌≡◌, ◌++◌, string_bytes, take}
use Rattle.std.specs.List.{flat_map}
use Rattle.program_tips.specs.Tip.{line_argument}
use Rattle.program_tips.proofs.tip.push_arguments.Given as goal

abbrev pub invariant-loop-argument : goal.invariant-loop-argument
invariant-loop-argument l =
    string_bytes l.line ≡ string_bytes l.initial.line ++ flat_map (λ argument. line_argument argument.now) (take l.argument-index l.arguments)
