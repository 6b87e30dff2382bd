-- The lines of a block, one more at a time.
use Rattle.std.proofs.Common.{◌≡◌, ℕ, suc, zero, ◌+◌, List, ◌++◌, ap, sym, ◌∙◌, append-nil, append_assoc, add-one, arith}
use Rattle.std.specs.List.{flat_map, range_with_len}

-- a list of the values at n numbers and one more
flat_map-range_suc : (f : ℕ → List ℕ) (a n : ℕ) → flat_map f (range_with_len a (suc n)) ≡ flat_map f (range_with_len a n) ++ f (a + n)
flat_map-range_suc f a zero = let e : a + 0 ≡ a = omega arith in append-nil (f a) ∙ ap f (sym e)
flat_map-range_suc f a (suc n) =
    let e : (a + 1) + n ≡ a + suc n = omega arith in
    ap (λ ys. f a ++ ys) (flat_map-range_suc f (a + 1) n) ∙ sym (append_assoc (f a) (flat_map f (range_with_len (a + 1) n)) (f ((a + 1) + n)))
    ∙ ap (λ k. (f a ++ flat_map f (range_with_len (a + 1) n)) ++ f k) e

-- what the numbers below one more give
pub flat_map-range_more : (f : ℕ → List ℕ) (n : ℕ) → flat_map f (range_with_len 0 (n + 1)) ≡ flat_map f (range_with_len 0 n) ++ f n
flat_map-range_more f n =
    let e : 0 + n ≡ n = omega arith in
    ap (λ k. flat_map f (range_with_len 0 k)) (add-one n) ∙ flat_map-range_suc f 0 n ∙ ap (λ k. flat_map f (range_with_len 0 n) ++ f k) e
