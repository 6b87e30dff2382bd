-- Texts of numbers, one after another
use Rattle.std.proofs.Common.{◌≡◌, ℕ, ◌+◌, List, [], ◌∷◌, ◌++◌, sym, ap, ◌∙◌, append_assoc, append-nil}
use Rattle.std.specs.List.{flat_map, range_with_len}
use Rattle.std.proofs.lemmas.Grind.{flat_map-append}
use Rattle.d64_merge.proofs.Kept.{range_more}

-- the text of one more number
pub text_more : (f : ℕ → List ℕ) (n : ℕ) (first old new : List ℕ) → new ≡ old ++ f n → old ≡ first ++ flat_map f (range_with_len 0 n) → new ≡ first ++ flat_map f (range_with_len 0 (n + 1))
text_more f n first old new is so_far =
    is ∙ ap (λ (text : List ℕ). text ++ f n) so_far ∙ append_assoc first (flat_map f (range_with_len 0 n)) (f n)
    ∙ ap (λ (text : List ℕ). first ++ (flat_map f (range_with_len 0 n) ++ text)) (sym (append-nil (f n)))
    ∙ ap (λ (text : List ℕ). first ++ text) (sym (ap (flat_map f) (range_more n) ∙ flat_map-append f (range_with_len 0 n) (n ∷ [])))
