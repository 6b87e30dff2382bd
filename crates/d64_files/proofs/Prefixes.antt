-- The bytes up to the first that passes a test.
use Rattle.std.proofs.Common.{◌≡◌, ℕ, ◌≤◌, Bool, true, false, not, cond, ltb, List, length, take, Option, Some, None, sym, ap, ◌∙◌, arith}
use Rattle.std.specs.Prelude.{position, take_while}
use Rattle.std.specs.List.{position_or_len}
use Rattle.std.proofs.Math.Seq.{take-length}
use Rattle.std.proofs.lemmas.Bool.Decides.{nat_tests}
use Rattle.std.proofs.lemmas.List.Sums.{prefix_len-le-length}

-- if a search gives a place, it is that place
place_of : (passed : Bool) (p i : ℕ) → Some i ≡ cond passed (Some p) None → i ≡ p
place_of true p i e = cc
place_of false p i e = cc

-- if a search gives None, the test failed
none_of : (passed : Bool) (p : ℕ) → ◌≡◌ {A = Option ℕ} None (cond passed (Some p) None) → passed ≡ false
none_of true p e = cc
none_of false p e = cc

-- the bytes before the first that passes
pub before_place : (test : ℕ → Bool) (xs : List ℕ) (i : ℕ) → Some i ≡ position test xs → take i xs ≡ take_while (λ x. not (test x)) xs
before_place test xs i e = ap (λ (n : ℕ). take n xs) (place_of (ltb (position_or_len test xs) (length xs)) (position_or_len test xs) i e)

-- if no byte passes, those are all
pub before_none : (test : ℕ → Bool) (xs : List ℕ) → ◌≡◌ {A = Option ℕ} None (position test xs) → xs ≡ take_while (λ x. not (test x)) xs
before_none test xs e =
    let past : ltb (position_or_len test xs) (length xs) ≡ false = none_of (ltb (position_or_len test xs) (length xs)) (position_or_len test xs) e in
    let most : position_or_len test xs ≤ length xs = prefix_len-le-length (λ x. not (test x)) xs in
    let whole : length xs ≡ position_or_len test xs = grind (arith, nat_tests) in
    sym (take-length xs) ∙ ap (λ (n : ℕ). take n xs) whole
