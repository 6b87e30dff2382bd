-- A data block, byte by byte
use Rattle.std.proofs.Common.{◌≡◌, ℕ, ◌+◌, ◌<◌, Bool, true, false, ◌&&◌, List, [], ◌∷◌, ◌++◌, length, map, take, set, fold, bit_xor, refl, sym, ap, ap₂, ◌∙◌, arith}
use Rattle.std.specs.List.{range_with_len, list_all}
use Rattle.std.proofs.lemmas.List.{take_more_set}
use Rattle.std.proofs.lemmas.List.FromFn.{map-range_with_len_more}
use Rattle.std.proofs.lemmas.List.Folds.{list_all-append}
use Rattle.std.proofs.lemmas.List.Sums.{fold-append}
use Rattle.d64_g64.proofs.StartLists.{range-append}

-- one byte more
pub bytes_more : (f : ℕ → ℕ) (block : List ℕ) (k value : ℕ) → k < length block → value ≡ f (k + 1) → take k block ≡ map f (range_with_len 1 k)
    → take (k + 1) (set block k value) ≡ map f (range_with_len 1 (k + 1))
bytes_more f block k value h is so_far =
    let along : 1 + k ≡ k + 1 = omega arith in
    take_more_set block k value h
    ∙ ap₂ (λ (xs : List ℕ) (x : ℕ). xs ++ x ∷ []) so_far is
    ∙ sym (map-range_with_len_more f 1 k (k + 1) along)

pub sum_more : (f : ℕ → ℕ) (k sum value : ℕ) → value ≡ f (k + 1) → sum ≡ fold bit_xor 0 (map f (range_with_len 1 k))
    → bit_xor sum value ≡ fold bit_xor 0 (map f (range_with_len 1 (k + 1)))
sum_more f k sum value is so_far =
    let along : 1 + k ≡ k + 1 = omega arith in
    ap₂ bit_xor so_far is
    ∙ sym (fold-append bit_xor 0 (map f (range_with_len 1 k)) (f (k + 1) ∷ []))
    ∙ ap (fold bit_xor 0) (sym (map-range_with_len_more f 1 k (k + 1) along))

and_true : (b : Bool) → (b && true) ≡ b
and_true true = refl
and_true false = refl

pub all_more : (p : ℕ → Bool) (k : ℕ) (whole there : Bool) → there ≡ p (k + 1) → whole ≡ list_all p (range_with_len 1 k)
    → (whole && there) ≡ list_all p (range_with_len 1 (k + 1))
all_more p k whole there is so_far =
    let along : 1 + k ≡ k + 1 = omega arith in
    ap₂ ◌&&◌ so_far (is ∙ sym (and_true (p (k + 1))) ∙ ap (λ (x : ℕ). p x && true) (sym along))
    ∙ sym (list_all-append p (range_with_len 1 k) (range_with_len (1 + k) 1))
    ∙ ap (list_all p) (sym (range-append 1 k 1))
