-- Hexadecimal digits.
use Rattle.std.proofs.Common.{◌≡◌, ℕ, ◌+◌, ◌<◌, true, cond, refl, sym, ◌∙◌, arith}
use Rattle.std.proofs.lemmas.Bool.{agree_below_at, eqb-true}
use Rattle.std.proofs.lemmas.Bool.Decides.{nat_tests}
use Rattle.std.specs.Prelude.{nat_lt, ◌==◌}
use Rattle.std.specs.Char.{to_ascii_lowercase}
use Rattle.petscii.specs.Spelling.{hex_digit}

-- a digit's code: `0` to `9`, then `a` to `f`
abbrev digit_code : ℕ → ℕ
digit_code n = cond (nat_lt n 10) (48 + n) (87 + n)

-- the digits by their codes
pub digit_by_range : (n : ℕ) → n < 16 → hex_digit n ≡ cond (nat_lt n 10) (48 + n) (87 + n)
unfolding hex_digit
digit_by_range n lt = eqb-true _ _ (agree_below_at (λ k. hex_digit k == digit_code k) (λ _. true) 16 n refl lt)

-- no two numbers have one digit
pub digit_once : (m n : ℕ) → m < 16 → n < 16 → hex_digit m ≡ hex_digit n → m ≡ n
digit_once m n small_m small_n same =
    let at_m : hex_digit m ≡ digit_code m = digit_by_range m small_m in
    let at_n : hex_digit n ≡ digit_code n = digit_by_range n small_n in
    let codes_same : digit_code m ≡ digit_code n = sym at_m ∙ same ∙ at_n in
    grind (arith, nat_tests)

-- a digit has no capital letter
pub digit_small : (n : ℕ) → n < 16 → to_ascii_lowercase (hex_digit n) ≡ hex_digit n
unfolding hex_digit
digit_small n lt = eqb-true _ _ (agree_below_at (λ k. to_ascii_lowercase (hex_digit k) == hex_digit k) (λ _. true) 16 n refl lt)
