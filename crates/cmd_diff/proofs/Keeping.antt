-- Blocks that are kept, one after another.
use Rattle.std.proofs.Common.{◌≡◌, ℕ, ◌<◌, Bool, true, false, if◌then◌else◌, List, [], ◌∷◌, ◌++◌, append_assoc, append-nil, ap, arith}
use Rattle.std.specs.List.{All, filter, range_with_len}
use Rattle.std.proofs.lemmas.List.Elements.{All-from_get_or}
use Rattle.std.proofs.lemmas.List.FromFn.{length-range_with_len, get_or-range_with_len}

-- one block more, by what its test gives
kept_by : (is_kept : Bool) (kept : List ℕ) (block : ℕ) (rest : List ℕ) → (kept ++ (if is_kept then block ∷ [] else [])) ++ rest ≡ kept ++ (if is_kept then block ∷ rest else rest)
kept_by true kept block rest = append_assoc kept (block ∷ []) rest
kept_by false kept block rest = ap (λ (xs : List ℕ). xs ++ rest) (append-nil kept)

-- one block more
pub kept_more : (test : ℕ → Bool) (kept : List ℕ) (block : ℕ) (rest : List ℕ) → (kept ++ (if test block then block ∷ [] else [])) ++ filter test rest ≡ kept ++ filter test (block ∷ rest)
kept_more test kept block rest = kept_by (test block) kept block (filter test rest)

-- the first n numbers are below n
pub all_below : (n : ℕ) → All (λ block. block < n) (range_with_len 0 n)
all_below n =
    All-from_get_or (λ block. block < n) (range_with_len 0 n) 0 (λ i h.
    let l = length-range_with_len 0 n in
    let e = get_or-range_with_len 0 n i 0 (omega arith) in
    omega arith)
