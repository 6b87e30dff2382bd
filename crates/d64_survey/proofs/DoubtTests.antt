-- Whether lists are empty, as laws of doubts ask.
use Rattle.std.proofs.Common.{◌≡◌, ◌||◌, Bool, true, false, eqb, List, [], ◌∷◌, length, refl, arith}
use Rattle.std.proofs.lemmas.Bool.{ne_eqb, eqb-true}

-- a list of no length has no elements
pub nothing_left : {X : Type 0} (xs : List X) → eqb (length xs) 0 ≡ true → xs ≡ []
nothing_left [] none = refl
nothing_left (x ∷ xs) none = let e = eqb-true (length (x ∷ xs)) 0 none in absurd (omega (arith, e))

-- one that has some has a length
pub something_left : {X : Type 0} (xs : List X) → (xs ≡ [] → ⊥) → eqb (length xs) 0 ≡ false
something_left [] some = absurd (some refl)
something_left (x ∷ xs) some = ne_eqb (length (x ∷ xs)) 0 (λ e. omega (arith, e))

-- whatever holds besides
pub or_true : (t : Bool) → (t || true) ≡ true
or_true true = refl
or_true false = refl

pub or_false : (t : Bool) → (t || false) ≡ t
or_false true = refl
or_false false = refl
