-- Hexadecimal digits, by their ranges and by their values.
use Rattle.std.proofs.Common.{◌≡◌, ◌<◌, ◌≤◌, ◌^◌, ℕ, List, [], ◌∷◌, length, true, arith, refl}
use Rattle.std.proofs.Math.Nat.{pow-le-pow_right}
use Rattle.std.proofs.lemmas.Int.Digits.{digits_value-lt}
use Rattle.std.proofs.lemmas.Grind.{common_steps}
use Rattle.std.specs.List.{list_all}
use Rattle.std.specs.Char.{digit_value, is_ascii_hexdigit}
use Rattle.std.specs.Str.Parse.{AllDigits, IsNumeral, digits_value, without_leading_plus}
use Rattle.program_arguments.specs.Start.{IsAddress}

hexdigit : (c : ℕ) → digit_value c < 16 → is_ascii_hexdigit c ≡ true
hexdigit c h = grind (arith, common_steps)

pub hexdigits : (hex : List ℕ) → AllDigits 16 hex → list_all is_ascii_hexdigit hex ≡ true
hexdigits [] h = refl
hexdigits (c ∷ cs) h = rw (hexdigit c h.0, hexdigits cs h.1) refl

no_plus : (hex : List ℕ) → IsNumeral 16 hex → without_leading_plus hex ≡ hex
no_plus [] h = absurd (omega (arith, h.0))
no_plus (c ∷ cs) h = grind (arith, common_steps)

-- an address is a numeral that a number of 16 bits holds
pub address_fits : (hex : List ℕ) → IsAddress hex → IsNumeral 16 (without_leading_plus hex) × (digits_value 16 (without_leading_plus hex) < 2 ^ 16)
address_fits hex h =
    let most : 16 ^ length hex ≤ 16 ^ 4 = pow-le-pow_right {n = 16} (omega arith) h.1 in
    rw (no_plus hex h.0) (h.0, omega (arith, digits_value-lt 16 hex h.0.1, most))
