-- images whose first blocks are blank
use Rattle.std.proofs.Common.{◌≡◌, ℕ, zero, suc, ◌+◌, ◌<◌, ◌≤◌, List, [], ◌∷◌, ◌++◌, length, drop, refl, ap, ◌∙◌, arith}
use Rattle.std.proofs.Math.ListN.{replicate, set}
use Rattle.std.proofs.lemmas.List.{drop_all, append-nil}

-- the next block becomes blank
next_blank : (count : ℕ) (image : List (List ℕ)) (blank : List ℕ) → count < length image
    → set (replicate count blank ++ drop count image) count blank ≡ replicate (suc count) blank ++ drop (suc count) image
next_blank count [] blank inside = absurd (omega arith)
next_blank zero (sector ∷ image) blank inside = refl
next_blank (suc count) (sector ∷ image) blank inside =
    ap (λ (rest : List (List ℕ)). blank ∷ rest) (next_blank count image blank (omega arith))

-- one block more becomes blank
pub one_more : (count : ℕ) (image : List (List ℕ)) (blank : List ℕ) → count < length image
    → set (replicate count blank ++ drop count image) count blank ≡ replicate (count + 1) blank ++ drop (count + 1) image
one_more count image blank inside =
    let more : suc count ≡ count + 1 = omega arith in
    next_blank count image blank inside ∙ ap (λ (n : ℕ). replicate n blank ++ drop n image) more

-- all blocks are blank
pub all_blank : (count : ℕ) (image : List (List ℕ)) (blank : List ℕ) → length image ≤ count
    → replicate count blank ++ drop count image ≡ replicate count blank
all_blank count image blank all =
    ap (λ (rest : List (List ℕ)). replicate count blank ++ rest) (drop_all count image all) ∙ append-nil (replicate count blank)
