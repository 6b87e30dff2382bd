-- Numbers with at least two digits.
use Rattle.std.proofs.Common.{◌≡◌, ℕ, ◌<◌, ◌≤◌, ◌++◌, codes, arith}
use Rattle.std.specs.Fmt.{decimal}
use Rattle.std.proofs.lemmas.Bool.Decides.{nat_tests}
use Rattle.script_lines.specs.Status.{two_digits}

-- a number of one digit
pub two_digits-short : (n : ℕ) → n < 10 → two_digits n ≡ codes "0" ++ decimal n
unfolding two_digits
two_digits-short n short = grind (arith, nat_tests)

-- a number of more digits
pub two_digits-long : (n : ℕ) → 10 ≤ n → two_digits n ≡ decimal n
unfolding two_digits
two_digits-long n long = grind (arith, nat_tests)
