use Rattle.std.proofs.Common.{arith, true≢false, sym, ◌∙◌}
use Rattle.program_arguments.proofs.Addresses.{address_fits, hexdigits}
use Rattle.program_arguments.proofs.reading.address.Goals as goal
use Rattle.program_arguments.proofs.reading.address.Goals.{then-hex-gt-ADDRESS_DIGITS-via-then-hex-gt-ADDRESS_DIGITS, then-hex-gt-ADDRESS_DIGITS-via-else-hex-gt-ADDRESS_DIGITS+then-not-is_hexadecimal}

pub returns-then-hex-gt-ADDRESS_DIGITS : goal.returns-then-hex-gt-ADDRESS_DIGITS
returns-then-hex-gt-ADDRESS_DIGITS c is = elim c.then-hex-gt-ADDRESS_DIGITS.branch [
  | then-hex-gt-ADDRESS_DIGITS-via-then-hex-gt-ADDRESS_DIGITS w ↦ absurd (omega (arith, is.1, w.if-hex-gt-ADDRESS_DIGITS.true))
  | then-hex-gt-ADDRESS_DIGITS-via-else-hex-gt-ADDRESS_DIGITS+then-not-is_hexadecimal w ↦
      true≢false (sym (hexdigits c.args.hex.now is.0.1) ∙ sym w.is_hexadecimal.ensures ∙ w.if-not-is_hexadecimal.true)
]

pub returns-in-Err : goal.returns-in-Err
returns-in-Err c is = c.in-Err.ensures.value (address_fits c.args.hex.now is)
