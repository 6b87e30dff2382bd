use Rattle.std.proofs.Common.{ap, length, arith}
use Rattle.std.proofs.lemmas.Fmt.{decimal_digit}
use Rattle.std.proofs.lemmas.Grind.{common_steps}
use Rattle.script_lines.proofs.TwoDigits.{two_digits-short, two_digits-long}
use Rattle.script_lines.proofs.status.push_number.Goals as goal
use Rattle.script_lines.proofs.status.push_number.Goals.{then-number-lt10, else-number-lt10}

pub push_bytes-requires-2 : goal.push_bytes-requires-2
push_bytes-requires-2 c =
    elim c.if-number-lt10.branch [
      | then-number-lt10 w ↦ let one = ap length (decimal_digit c.args.number w.if-number-lt10.true) in grind (arith, common_steps)
      | else-number-lt10 w ↦ grind (arith, common_steps)
    ]

pub returns-clause-digits : goal.returns-clause-digits
returns-clause-digits c =
    elim c.if-number-lt10.branch [
      | then-number-lt10 w ↦ let e = two_digits-short c.args.number w.if-number-lt10.true in grind (arith, common_steps)
      | else-number-lt10 w ↦ let e = two_digits-long c.args.number w.if-number-lt10.false in grind (arith, common_steps)
    ]

pub returns-clause-short : goal.returns-clause-short
returns-clause-short c =
    elim c.if-number-lt10.branch [
      | then-number-lt10 w ↦ let one = ap length (decimal_digit c.args.number w.if-number-lt10.true) in grind (arith, common_steps)
      | else-number-lt10 w ↦ grind (arith, common_steps)
    ]
