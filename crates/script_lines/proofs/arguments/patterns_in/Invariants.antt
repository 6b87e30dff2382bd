use Rattle.std.proofs.Common.{map, take}
use Rattle.std.specs.List.{AllZip}
use Rattle.d64_files.specs.Pattern.{is_pattern}
use Rattle.script_lines.specs.Act.{IsSpelled}
use Rattle.script_lines.proofs.arguments.patterns_in.Given as goal

-- the arguments so far were read
abbrev pub invariant-loop-argument : goal.invariant-loop-argument
invariant-loop-argument l = AllZip (IsSpelled is_pattern) (take l.argument-index (map (λ argument. argument.now) l.arguments)) l.patterns.items
