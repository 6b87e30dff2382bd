-- The runs of bytes that make words.
use Rattle.std.proofs.Common.{◌≡◌, ℕ, Bool, cond, ◌≤◌, List, length, position, unwrap_or, Some, None, inl, inr, ap, ◌∙◌, arith}
use Rattle.std.specs.List.{position_or_len}
use Rattle.std.proofs.lemmas.Bool.{cases_lt, lt-ltb, le-ltb}
use Rattle.std.proofs.lemmas.List.Sums.{prefix_len-le-length}

-- the first place that passes a test, or the length
pub unwrap_or_position : (p : ℕ → Bool) (xs : List ℕ) → unwrap_or (position p xs) (length xs) ≡ position_or_len p xs
unwrap_or_position p xs =
    let short : position_or_len p xs ≤ length xs = prefix_len-le-length _ xs in
    elim (cases_lt (position_or_len p xs) (length xs)) [
      | inl inside ↦ ap (λ b. unwrap_or (cond b (Some (position_or_len p xs)) None) (length xs)) (lt-ltb _ _ inside)
      | inr past ↦ ap (λ b. unwrap_or (cond b (Some (position_or_len p xs)) None) (length xs)) (le-ltb _ _ past) ∙ omega arith
    ]
