-- What is found in a list.
use Rattle.std.proofs.Common.{◌≡◌, ◌+◌, ◌<◌, ◌≤◌, ◌∷◌, ◌∙◌, ℕ, Bool, true, false, List, [], Option, Some, None, refl, ap, drop, get_or, length, subst, sym}
use Rattle.std.specs.Prelude.{find, if◌then◌else◌}
use Rattle.std.proofs.lemmas.List.{at_drop_more, drop_all}

-- an element that passes is found
pub found_first : {A : Type 0} (passes : A → Bool) (first : A) (others : List A) → passes first ≡ true → find passes (first ∷ others) ≡ Some first
found_first passes first others has = ap (λ (b : Bool). if b then Some first else find passes others) has

-- one that does not pass is passed over
pub passed_over : {A : Type 0} (passes : A → Bool) (first : A) (others : List A) → passes first ≡ false → find passes (first ∷ others) ≡ find passes others
passed_over passes first others fails = ap (λ (b : Bool). if b then Some first else find passes others) fails

-- Of a list that is gone through, of which no element before a place passes: what is found in all of
-- it is found from that place on.

-- the element at the place passes
pub found_at : {A : Type 0} (passes : A → Bool) (all : List A) (place : ℕ) (other : A) (found : Option A) → place < length all
    → passes (get_or all place other) ≡ true → find passes (drop place all) ≡ found → Some (get_or all place other) ≡ found
found_at passes all place other found within has so = sym (at_drop_more (find passes) all place other within ∙ found_first passes _ _ has) ∙ so

-- it does not pass
pub passed_at : {A : Type 0} (passes : A → Bool) (all : List A) (place : ℕ) (other : A) (found : Option A) → place < length all
    → passes (get_or all place other) ≡ false → find passes (drop place all) ≡ found → find passes (drop (place + 1) all) ≡ found
passed_at passes all place other found within fails so = sym (at_drop_more (find passes) all place other within ∙ passed_over passes _ _ fails) ∙ so

-- no element is left
pub none_found : {A : Type 0} (passes : A → Bool) (all : List A) (place : ℕ) (found : Option A) → length all ≤ place
    → find passes (drop place all) ≡ found → None ≡ found
none_found passes all place found past so = ap (find passes) (sym (drop_all place all past)) ∙ so

-- what is found passes
pub found_passes : {A : Type 0} (passes : A → Bool) (all : List A) (found : A) → find passes all ≡ Some found → passes found ≡ true
found_passes passes [] found is = absurd cc
found_passes {A} passes (first ∷ others) found is = by (passes first) refl (found_passes passes others found) is
  where
    by : (b : Bool) → passes first ≡ b → (find passes others ≡ Some found → passes found ≡ true)
        → (if b then Some first else find passes others) ≡ Some found → passes found ≡ true
    by true has later same = let one : first ≡ found = cc in subst (λ (x : A). passes x ≡ true) one has
    by false fails later same = later same
