-- Whether one of a list passes a test.
use Rattle.std.proofs.Common.{◌≡◌, ℕ, zero, suc, ◌+◌, ◌<◌, ◌||◌, ◌&&◌, Bool, true, false, eqb, cond, List, [], ◌∷◌, map, refl, ap, ap₂, ◌∙◌, arith}
use Rattle.std.specs.Prelude.{filter}
use Rattle.std.specs.List.{flat_map, list_any, enumerate_from, slice_get}
use Rattle.std.specs.Option.{option_map_or}
use Rattle.std.proofs.lemmas.Bool.{ne_eqb, or_from}
use Rattle.std.proofs.lemmas.List.Folds.{list_any-append}
use Rattle.std.proofs.lemmas.List.Concat.{flat_map-cons}

-- two tests that agree
pub any_same : {X : Type 0} (f g : X → Bool) → ((x : X) → f x ≡ g x) → (xs : List X) → list_any f xs ≡ list_any g xs
any_same f g same [] = refl
any_same f g same (x ∷ xs) = ap₂ ◌||◌ (same x) (any_same f g same xs)

-- a test that nothing passes
pub any_never : {X : Type 0} (f : X → Bool) → ((x : X) → f x ≡ false) → (xs : List X) → list_any f xs ≡ false
any_never f never [] = refl
any_never f never (x ∷ xs) = or_from (f x) (list_any f xs) (never x) (any_never f never xs)

-- along lists one after another
pub any_flat : {X Y : Type 0} (f : Y → Bool) (g : X → List Y) (xs : List X) → list_any f (flat_map g xs) ≡ list_any (λ x. list_any f (g x)) xs
any_flat f g [] = refl
any_flat f g (x ∷ xs) =
    ap (list_any f) (flat_map-cons g x xs) ∙ list_any-append f (g x) (flat_map g xs) ∙ ap (λ (t : Bool). list_any f (g x) || t) (any_flat f g xs)

-- along what another list gives
pub any_map : {X Y : Type 0} (f : Y → Bool) (g : X → Y) (xs : List X) → list_any f (map g xs) ≡ list_any (λ x. f (g x)) xs
any_map f g [] = refl
any_map f g (x ∷ xs) = ap (λ (t : Bool). f (g x) || t) (any_map f g xs)

-- along those that pass another test
pub any_filter : {X : Type 0} (f p : X → Bool) (xs : List X) → list_any f (filter p xs) ≡ list_any (λ x. p x && f x) xs
any_filter f p [] = refl
any_filter f p (x ∷ xs) = by_test (p x) (any_filter f p xs)
  where
    by_test : (t : Bool) → list_any f (filter p xs) ≡ list_any (λ x. p x && f x) xs → list_any f (cond t (x ∷ filter p xs) (filter p xs)) ≡ ((t && f x) || list_any (λ x. p x && f x) xs)
    by_test true e = ap (λ (t : Bool). f x || t) e
    by_test false e = e

-- a test that only what has one number passes, along what comes later
none_past : {X : Type 0} (f : ℕ × X → Bool) (slot : ℕ) → ((m : ℕ) (x : X) → eqb slot m ≡ false → f (m, x) ≡ false)
    → (n : ℕ) (xs : List X) → slot < n → list_any f (enumerate_from n xs) ≡ false
none_past f slot others n [] past = refl
none_past f slot others n (x ∷ xs) past =
    or_from (f (n, x)) (list_any f (enumerate_from (n + 1) xs))
    (others n x (ne_eqb slot n (λ e. omega arith)))
    (none_past f slot others (n + 1) xs (omega arith))

-- along a numbered list it is the test of the one of that number
pub any_numbered : {X : Type 0} (f : ℕ × X → Bool) (slot : ℕ) → ((m : ℕ) (x : X) → eqb slot m ≡ false → f (m, x) ≡ false)
    → (n k : ℕ) (xs : List X) → n + k ≡ slot → list_any f (enumerate_from n xs) ≡ option_map_or (λ x. f (slot, x)) (slice_get xs k) false
any_numbered f slot others n zero [] e = refl
any_numbered f slot others n (suc k) [] e = refl
any_numbered f slot others n zero (x ∷ xs) e =
    let same : n ≡ slot = omega arith in
    ap₂ ◌||◌ (ap (λ (m : ℕ). f (m, x)) same) (none_past f slot others (n + 1) xs (omega arith)) ∙ last (f (slot, x))
  where
    last : (t : Bool) → (t || false) ≡ t
    last true = refl
    last false = refl
any_numbered f slot others n (suc k) (x ∷ xs) e =
    ap (λ (t : Bool). t || list_any f (enumerate_from (n + 1) xs)) (others n x (ne_eqb slot n (λ same. omega arith)))
    ∙ any_numbered f slot others (n + 1) k xs (omega arith)
