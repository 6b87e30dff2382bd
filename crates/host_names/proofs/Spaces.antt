-- Names without the spaces at their end.
use Rattle.std.proofs.Common.{◌≡◌, ◌≢◌, ℕ, Bool, true, false, List, [], ◌∷◌, ◌++◌, length, refl, ap, ◌∙◌, arith}
use Rattle.std.specs.Prelude.{◌==◌, ◌&&◌, if◌then◌else◌}
use Rattle.std.proofs.lemmas.Bool.{ne_eqb}
use Rattle.std.proofs.lemmas.List.{length-append}
use Rattle.host_names.specs.HostName.{trailing_space, without_last_spaces}

-- a space at the end makes no difference
pub space_dropped : (name : List ℕ) → without_last_spaces (name ++ trailing_space ∷ []) ≡ without_last_spaces name
unfolding without_last_spaces
space_dropped [] = refl
space_dropped (byte ∷ name) =
    ap (λ (rest : List ℕ). if byte == trailing_space && length rest == 0 then [] else byte ∷ rest) (space_dropped name)

-- what comes before another byte stays, and that byte
pub front_kept : (front : List ℕ) (other : ℕ) (rest : List ℕ) → (other == trailing_space) ≡ false
    → without_last_spaces (front ++ other ∷ rest) ≡ front ++ other ∷ without_last_spaces rest
unfolding without_last_spaces
front_kept [] other rest is = ap (λ (t : Bool). if t && length (without_last_spaces rest) == 0 then [] else other ∷ without_last_spaces rest) is
front_kept (byte ∷ front) other rest is =
    let kept = front ++ other ∷ without_last_spaces rest in
    ap (λ (bytes : List ℕ). if byte == trailing_space && length bytes == 0 then [] else byte ∷ bytes) (front_kept front other rest is)
    ∙ by_space (byte == trailing_space) kept (λ none. omega (arith, none, length-append front (other ∷ without_last_spaces rest)))
  where
    by_space : (t : Bool) (kept : List ℕ) → length kept ≢ 0 → (if t && length kept == 0 then [] else byte ∷ kept) ≡ byte ∷ kept
    by_space true kept some = ap (λ (none : Bool). if none then [] else byte ∷ kept) (ne_eqb (length kept) 0 some)
    by_space false kept some = refl

-- so a name that ends with another byte stays as it is
pub other_kept : (name : List ℕ) (last : ℕ) → (last == trailing_space) ≡ false → without_last_spaces (name ++ last ∷ []) ≡ name ++ last ∷ []
unfolding without_last_spaces
other_kept name last is = front_kept name last [] is

-- as an empty one does
pub empty_kept : (name : List ℕ) → length name ≡ 0 → name ≡ without_last_spaces name
unfolding without_last_spaces
empty_kept [] none = refl
empty_kept (byte ∷ name) none = absurd (omega (arith, none))
