-- Numbers that pass a test, one after another
use Rattle.std.proofs.Common.{◌≡◌, ℕ, ◌+◌, ◌≤◌, Bool, true, false, if◌then◌else◌, arith, List, [], ◌∷◌, ◌++◌, map, filter, refl, sym, ap, ap₂, ◌∙◌}
use Rattle.std.specs.List.{range_with_len}
use Rattle.std.proofs.lemmas.List.FromFn.{map-range_with_len_more}
use Rattle.std.proofs.lemmas.List.Elements.{filter-append}

same : (xs : List ℕ) → map (λ x. x) xs ≡ xs
same [] = refl
same (x ∷ xs) = ap (λ (ys : List ℕ). x ∷ ys) (same xs)

-- the numbers up to n are those below n, and n itself
pub range_more : (n : ℕ) → range_with_len 0 (n + 1) ≡ range_with_len 0 n ++ n ∷ []
range_more n = sym (same (range_with_len 0 (n + 1))) ∙ map-range_with_len_more (λ x. x) 0 n n (omega arith) ∙ ap (λ (xs : List ℕ). xs ++ n ∷ []) (same (range_with_len 0 n))

-- the same for the numbers that pass a test
pub kept_more : (test : ℕ → Bool) (n : ℕ) (is_kept : Bool) (old new : List ℕ) → new ≡ old ++ (if is_kept then n ∷ [] else []) → is_kept ≡ test n
    → old ≡ filter test (range_with_len 0 n) → new ≡ filter test (range_with_len 0 (n + 1))
kept_more test n is_kept old new is by so_far =
    is ∙ ap₂ (λ (xs : List ℕ) (b : Bool). xs ++ (if b then n ∷ [] else [])) so_far by
    ∙ sym (filter-append test (range_with_len 0 n) (n ∷ [])) ∙ ap (filter test) (sym (range_more n))

-- no image has more blocks than one of 40 tracks
pub few_blocks : (is_larger : Bool) → (if is_larger then 768 else 683) ≤ 768
few_blocks true = omega arith
few_blocks false = omega arith
