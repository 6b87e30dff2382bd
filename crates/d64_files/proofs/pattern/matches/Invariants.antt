use Rattle.std.proofs.Common.{◌≡◌, drop}
use Rattle.d64_files.specs.Pattern.{matches}
use Rattle.d64_files.proofs.pattern.matches.Given as goal

abbrev pub invariant-loop-expected : goal.invariant-loop-expected
invariant-loop-expected l = matches (drop l.expected-index l.expected-items) l.rest ≡ matches l.fn.pattern l.fn.name
