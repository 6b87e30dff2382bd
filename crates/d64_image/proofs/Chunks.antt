-- bytes cut into pieces of equal length
use Rattle.std.proofs.Common.{◌≡◌, ℕ, zero, suc, ◌*◌, ◌≤◌, List, [], ◌∷◌, ◌++◌, length, take, drop, refl, ap, ◌∙◌, subst, arith}
use Rattle.std.specs.List.{All, flat_map}
use Rattle.std.specs.Simd.{first_chunks}
use Rattle.std.proofs.lemmas.List.{length-drop, length-take-le, take-append-drop, take_at, drop_at}
use Rattle.std.proofs.lemmas.List.Elements.{All-nil, All-cons, All-take, All-drop}

-- a list with no elements
empty : {X : Type 0} (xs : List X) → length xs ≡ 0 → [] ≡ xs
empty [] h = refl
empty (x ∷ xs) h = absurd (omega arith)

-- there are as many pieces
pub length-first_chunks : {X : Type 0} (n k : ℕ) (xs : List X) → length (first_chunks n k xs) ≡ k
length-first_chunks n zero xs = refl
length-first_chunks n (suc k) xs = let e = length-first_chunks n k (drop n xs) in omega arith

-- the pieces joined are the list
pub flat_map-first_chunks : {X : Type 0} (n k : ℕ) (xs : List X) → k * n ≡ length xs → flat_map (λ x. x) (first_chunks n k xs) ≡ xs
flat_map-first_chunks n zero xs h = empty xs (omega arith)
flat_map-first_chunks n (suc k) xs h =
    let l = length-drop n xs in
    ap (λ (rest : List _). take n xs ++ rest) (flat_map-first_chunks n k (drop n xs) (omega arith)) ∙ take-append-drop n xs

-- each piece has that length, and what holds of each element of the list holds of each in a piece
pub All-first_chunks : {X : Type 0} (P : X → Type 0) (n k : ℕ) (xs : List X) → k * n ≤ length xs → All P xs
    → All (λ piece. (length piece ≡ n) × All P piece) (first_chunks n k xs)
All-first_chunks P n zero xs h each = All-nil (λ piece. (length piece ≡ n) × All P piece)
All-first_chunks P n (suc k) xs h each =
    let l = length-drop n xs in
    All-cons (λ piece. (length piece ≡ n) × All P piece) (take n xs) (first_chunks n k (drop n xs))
    (length-take-le n xs (omega arith), All-take P n xs each)
    (All-first_chunks P n k (drop n xs) (omega arith) (All-drop P n xs each))

-- what holds of each element of joined pieces holds of each in a piece
pub All-pieces : {X : Type 0} (P : X → Type 0) (pieces : List (List X)) → All P (flat_map (λ piece. piece) pieces) → All (λ piece. All P piece) pieces
All-pieces P [] each = All-nil (λ piece. All P piece)
All-pieces P (piece ∷ pieces) each =
    let rest = flat_map (λ xs. xs) pieces in
    All-cons (λ xs. All P xs) piece pieces
    (subst (All P) (take_at piece rest (length piece) refl) (All-take P (length piece) (piece ++ rest) each))
    (All-pieces P pieces (subst (All P) (drop_at piece rest (length piece) refl) (All-drop P (length piece) (piece ++ rest) each)))
