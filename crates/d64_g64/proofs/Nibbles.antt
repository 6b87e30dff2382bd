-- The nibbles of codes
use Rattle.std.proofs.Common.{◌≡◌, ℕ, ◌<◌, ◌≤◌, Option, Some, None, nat_eq, get_or, refl, sym, ap, arith}
use Rattle.std.specs.Option.{option_map_or}
use Rattle.std.proofs.lemmas.List.Quantifiers.{position-Some}
use Rattle.d64_image.proofs.Zones.{equal_below}
use Rattle.d64_g64.specs.Codes.{nibble_codes, nibble_of}
use Rattle.d64_g64.specs.declared.code.TheConstants.{NIBBLES}

-- a nibble is one of sixteen
pub nibble_fits : (code nibble : ℕ) → nibble_of code ≡ Some nibble → nibble < 16
unfolding nibble_of
nibble_fits code nibble is = let found = position-Some (nat_eq code) nibble_codes nibble 0 is in found.0

-- the table
in_table : (code : ℕ) → code < 32 → option_map_or (λ nibble. nibble) (nibble_of code) 16 ≡ get_or NIBBLES code 0
unfolding nibble_of
in_table code h = equal_below (λ code. option_map_or (λ nibble. nibble) (nibble_of code) 16) (λ code. get_or NIBBLES code 0) 32 refl code h

pub nibble_in_table : (code : ℕ) → code < 32 → get_or NIBBLES code 0 < 16 → Some (get_or NIBBLES code 0) ≡ nibble_of code
nibble_in_table code h fits = by_nibble (nibble_of code) (in_table code h)
  where
    by_nibble : (o : Option ℕ) → option_map_or (λ nibble. nibble) o 16 ≡ get_or NIBBLES code 0 → Some (get_or NIBBLES code 0) ≡ o
    by_nibble None e = absurd (omega (arith, e, fits))
    by_nibble (Some nibble) e = ap (λ (n : ℕ). Some n) (sym e)

pub none_in_table : (code : ℕ) → code < 32 → 16 ≤ get_or NIBBLES code 0 → None ≡ nibble_of code
none_in_table code h past = by_nibble (nibble_of code) refl (in_table code h)
  where
    by_nibble : (o : Option ℕ) → nibble_of code ≡ o → option_map_or (λ nibble. nibble) o 16 ≡ get_or NIBBLES code 0 → None ≡ o
    by_nibble None is e = refl
    by_nibble (Some nibble) is e = let fits = nibble_fits code nibble is in absurd (omega (arith, e, fits, past))
