-- Names that are the same if small and capital letters count as the same.
use Rattle.std.proofs.Common.{◌≡◌, ℕ, Bool, true, false, List, [], ◌∷◌, ◌++◌, refl, sym, ap, ◌∙◌}
use Rattle.std.specs.Prelude.{fold}
use Rattle.std.specs.Cmp.{IsEquivalence}
use Rattle.std.specs.Str.{str_to_ascii_lowercase}
use Rattle.std.proofs.lemmas.Bool.{or_left, or_right}
use Rattle.std.proofs.lemmas.List.Folds.{list_any-append}
use Rattle.std.proofs.lemmas.Map.Steps.{list_any_congr}
use Rattle.std.proofs.lemmas.Slice.Eq.{bytes_eq-Decides}
use Rattle.host_names.specs.Digest.{next_digest, name_digest}
use Rattle.host_names.specs.HostName.{is_same_name}
use Rattle.host_names.specs.TakenNames.{is_taken}

-- two tests that pass together
same_tests : (a b : Bool) → (a ≡ true → b ≡ true) → (b ≡ true → a ≡ true) → a ≡ b
same_tests true b to from = sym (to refl)
same_tests false true to from = from refl
same_tests false false to from = refl

-- the same names have the same small letters
pub lower_from_same : (one other : List ℕ) → is_same_name one other ≡ true → str_to_ascii_lowercase one ≡ str_to_ascii_lowercase other
lower_from_same one other is = (bytes_eq-Decides (str_to_ascii_lowercase one) (str_to_ascii_lowercase other)).0 is

pub same_from_lower : (one other : List ℕ) → str_to_ascii_lowercase one ≡ str_to_ascii_lowercase other → is_same_name one other ≡ true
same_from_lower one other is = (bytes_eq-Decides (str_to_ascii_lowercase one) (str_to_ascii_lowercase other)).1 is

pub same_laws : IsEquivalence is_same_name
same_laws = record {
  refl = λ x. same_from_lower x x refl;
  symm = λ x y. same_tests (is_same_name x y) (is_same_name y x) (λ is. same_from_lower y x (sym (lower_from_same x y is))) (λ is. same_from_lower x y (sym (lower_from_same y x is)));
  congr = λ x y z is. same_tests (is_same_name x z) (is_same_name y z)
      (λ with. same_from_lower y z (sym (lower_from_same x y is) ∙ lower_from_same x z with))
      (λ with. same_from_lower x z (lower_from_same x y is ∙ lower_from_same y z with));
}

-- and the same digest
pub digest_from_same : (one other : List ℕ) → is_same_name one other ≡ true → name_digest one ≡ name_digest other
unfolding name_digest
digest_from_same one other is = ap (λ (name : List ℕ). fold next_digest 0 name) (lower_from_same one other is)

-- ---- taken names

-- of two names that are the same, either both are taken or neither is
pub taken_alike : (taken : List (List ℕ)) (one other : List ℕ) → is_same_name one other ≡ true → is_taken taken one ≡ is_taken taken other
taken_alike taken one other is = list_any_congr same_laws one other taken is

-- what is taken stays so
pub taken_still : (taken : List (List ℕ)) (more name : List ℕ) → is_taken taken name ≡ true → is_taken (taken ++ more ∷ []) name ≡ true
taken_still taken more name is =
    list_any-append (is_same_name name) taken (more ∷ []) ∙ or_left (is_taken taken name) (is_taken (more ∷ []) name) is

-- the last name is taken
pub last_taken : (taken : List (List ℕ)) (more name : List ℕ) → is_same_name name more ≡ true → is_taken (taken ++ more ∷ []) name ≡ true
last_taken taken more name is =
    list_any-append (is_same_name name) taken (more ∷ [])
    ∙ or_right (is_taken taken name) (is_taken (more ∷ []) name) (or_left (is_same_name name more) false is)
