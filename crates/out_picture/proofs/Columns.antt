-- The numbers of columns, one after another.
use Rattle.std.proofs.Common.{◌≡◌, ℕ, ◌+◌, List, [], ◌∷◌, ◌++◌, sym, ap, ◌∙◌, arith}
use Rattle.std.specs.List.{flat_map, range_with_len}
use Rattle.std.proofs.lemmas.List.{flat_map_more}
use Rattle.d64_map.proofs.Ranges.{range_push}

-- one number more
pub row_more : {A : Type 0} (f : ℕ → List A) (before after old : List A) (k : ℕ) → before ≡ old ++ flat_map f (range_with_len 0 k) → after ≡ before ++ f k
    → after ≡ old ++ flat_map f (range_with_len 0 (k + 1))
row_more {A = A} f before after old k so more =
    let here : 0 + k ≡ k = omega arith in
    more ∙ ap (λ (text : List A). text ++ f k) so
    ∙ flat_map_more f old (range_with_len 0 k) k
    ∙ ap (λ (n : ℕ). old ++ flat_map f (range_with_len 0 k ++ n ∷ [])) (sym here)
    ∙ ap (λ (ns : List ℕ). old ++ flat_map f ns) (sym (range_push 0 k))
