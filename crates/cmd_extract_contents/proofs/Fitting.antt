-- What is written fits.
use Rattle.std.proofs.Common.{◌≡◌, ℕ, ◌+◌, ◌-◌, ◌≤◌, nat_le, Bool, true, false, cond, [], ◌∷◌, length, Option, Some, None, refl, arith}
use Rattle.std.specs.Prelude.{is_some, unwrap_or}
use Rattle.std.proofs.lemmas.Bool.{leb-true}
use Rattle.std.proofs.lemmas.List.Sums.{sum_by-cons}
use Rattle.cmd_extract_contents.specs.Portions.{Portion}
use Rattle.cmd_extract_contents.specs.Limits.{left_after, portion_within, written_portions, byte_count}
use Rattle.cmd_extract_contents.specs.ExtractLaws.{WrittenFits}

-- whether a file fits into what is left, by the test of the code
by_test : (fits : Bool) (left : ℕ) (file : Portion) → (fits ≡ true → length file.bytes ≤ left)
    → byte_count (cond (is_some (cond fits (Some (left - length file.bytes)) None)) (Some file) None) + unwrap_or (cond fits (Some (left - length file.bytes)) None) 0 ≤ left
by_test true left file fit = let f = fit refl in omega (arith, f)
by_test false left file fit = omega arith

-- what is written of a slot, and what later files may have, is no more than what the file may have
one_fits : (left : Option ℕ) (file : Option Portion) → byte_count (portion_within left file) + unwrap_or (left_after left file) 0 ≤ unwrap_or left 0
one_fits None None = omega arith
one_fits (Some left) None = omega arith
one_fits None (Some file) = omega arith
one_fits (Some left) (Some file) = by_test (nat_le (length file.bytes) left) left file (λ t. leb-true (length file.bytes) left t)

pub all_fit : WrittenFits
unfolding written_portions
all_fit left [] = omega arith
all_fit left (file ∷ files) =
    let first = portion_within left file in
    let later = written_portions (left_after left file) files in
    omega (arith, sum_by-cons byte_count first later, one_fits left file, all_fit (left_after left file) files)
