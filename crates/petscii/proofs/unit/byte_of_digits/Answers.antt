use Rattle.std.specs.Char.{to_ascii_lowercase}
use Rattle.petscii.proofs.UnitForms.{digits_name, no_high_digit, no_low_digit}
use Rattle.petscii.proofs.unit.byte_of_digits.Goals as goal

pub returns-in-Some-Some : goal.returns-in-Some-Some
returns-in-Some-Some c =
    digits_name (to_ascii_lowercase c.args.high) (to_ascii_lowercase c.args.low) c.in-Some-Some.high c.in-Some-Some.low
    c.in-Some-Some.ensures.0 c.in-Some-Some.ensures'.0 c.in-Some-Some.ensures.1 c.in-Some-Some.ensures'.1

pub returns-in_default : goal.returns-in_default
returns-in_default c = no_low_digit (to_ascii_lowercase c.args.high) (to_ascii_lowercase c.args.low) c.in_default.ensures'

pub returns-in_default-2 : goal.returns-in_default-2
returns-in_default-2 c = no_high_digit (to_ascii_lowercase c.args.high) (to_ascii_lowercase c.args.low) (rw c.in_default.is-0 at c.number_of.ensures)
