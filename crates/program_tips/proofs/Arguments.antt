-- Lists of arguments, and of their texts.
use Rattle.std.proofs.Common.{◌≡◌, ◌≤◌, ◌+◌, List, [], ◌∷◌, ◌++◌, map, length, Bool, true, false, not, cond, ◌||◌, nat_lt, Some, None, refl, ap, arith}
use Rattle.std.specs.Prelude.{position, unwrap_or}
use Rattle.std.specs.List.{flat_map, list_any, position_or_len, prefix_len}
use Rattle.std.proofs.lemmas.Bool.{ltb-false}
use Rattle.std.proofs.lemmas.List.Sums.{prefix_len-le-length}

-- what is made of each argument is what is made of each text
pub flat_map_texts : {X Y A : Type 0} (f : X → Y) (g : Y → List A) (xs : List X) → flat_map (λ x. g (f x)) xs ≡ flat_map g (map f xs)
flat_map_texts f g [] = refl
flat_map_texts f g (x ∷ xs) = ap (λ more. g (f x) ++ more) (flat_map_texts f g xs)

passed_of_text : {X Y : Type 0} (f : X → Y) (p : Y → Bool) (xs : List X) → prefix_len (λ x. p (f x)) xs ≡ prefix_len p (map f xs)
passed_of_text f p [] = refl
passed_of_text f p (x ∷ xs) = ap (λ n. cond (p (f x)) (1 + n) 0) (passed_of_text f p xs)

pub place_of_text : {X Y : Type 0} (f : X → Y) (p : Y → Bool) (xs : List X) → position_or_len (λ x. p (f x)) xs ≡ position_or_len p (map f xs)
place_of_text f p xs = passed_of_text f (λ y. not (p y)) xs

-- one argument passes if and only if one text does
pub any_of_text : {X Y : Type 0} (f : X → Y) (p : Y → Bool) (xs : List X) → list_any (λ x. p (f x)) xs ≡ list_any p (map f xs)
any_of_text f p [] = refl
any_of_text f p (x ∷ xs) = ap (λ more. p (f x) || more) (any_of_text f p xs)

-- the first place, or the length
pub place_or_length : {X : Type 0} (test : X → Bool) (xs : List X) → unwrap_or (position test xs) (length xs) ≡ position_or_len test xs
place_or_length test xs = of_test (nat_lt (position_or_len test xs) (length xs)) refl
  where
    of_test : (b : Bool) → nat_lt (position_or_len test xs) (length xs) ≡ b → unwrap_or (cond b (Some (position_or_len test xs)) None) (length xs) ≡ position_or_len test xs
    of_test true at = refl
    of_test false at = let past : length xs ≤ position_or_len test xs = ltb-false _ _ at in omega (arith, past, prefix_len-le-length (λ x. not (test x)) xs)
