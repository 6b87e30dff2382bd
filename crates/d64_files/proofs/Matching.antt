-- The test of a pattern against its four cases.
use Rattle.std.proofs.Common.{inl, inr, ◌≡◌, ℕ, ◌≢◌, true, List, [], ◌∷◌, refl, arith, subst, sym}
use Rattle.std.specs.Bool.{Decides}
use Rattle.std.proofs.lemmas.Bool.{cases_eq, eqb-true}
use Rattle.std.proofs.lemmas.Bool.Decides.{nat_tests}
use Rattle.d64_files.specs.Label.{star, question_mark}
use Rattle.d64_files.specs.Pattern.{Matches, matches, both_empty, any_rest, any_byte, same_byte}

-- a pattern that begins with a star matches every name
matches-star : (pattern name : List ℕ) → matches (star ∷ pattern) name ≡ true
matches-star pattern [] = refl
matches-star pattern (b ∷ name) = refl

-- a pattern that begins with the name's first byte matches if the rests do
matches-same : (b : ℕ) (pattern name : List ℕ) → matches pattern name ≡ true → matches (b ∷ pattern) (b ∷ name) ≡ true
matches-same b pattern name h = grind (arith, nat_tests)

-- each case passes the test
matches-from_case : {pattern name : List ℕ} → Matches pattern name → matches pattern name ≡ true
matches-from_case both_empty = refl
matches-from_case (any_rest {pattern} {name}) = matches-star pattern name
matches-from_case (any_byte m) = matches-from_case m
matches-from_case (same_byte {b} {pattern} {name} not_star not_question m) = matches-same b pattern name (matches-from_case m)

-- a pattern that begins with a star
from_star : (p : ℕ) (pattern name : List ℕ) → p ≡ star → Matches (p ∷ pattern) name
from_star p pattern name e = subst (λ q. Matches (q ∷ pattern) name) (sym e) any_rest

-- a pattern that begins with a question mark
from_question_mark : (p b : ℕ) (pattern name : List ℕ) → p ≡ question_mark → Matches pattern name → Matches (p ∷ pattern) (b ∷ name)
from_question_mark p b pattern name e m = subst (λ q. Matches (q ∷ pattern) (b ∷ name)) (sym e) (any_byte m)

-- a pattern that begins with another byte
from_same_byte : (p b : ℕ) (pattern name : List ℕ) → p ≢ star → p ≢ question_mark → p ≡ b → Matches pattern name → Matches (p ∷ pattern) (b ∷ name)
from_same_byte p b pattern name not_star not_question e m = subst (λ c. Matches (p ∷ pattern) (c ∷ name)) e (same_byte not_star not_question m)

-- if a pattern that begins with no star matches, the rests match
rests : (p b : ℕ) (pattern name : List ℕ) → p ≢ star → matches (p ∷ pattern) (b ∷ name) ≡ true → matches pattern name ≡ true
rests p b pattern name not_star h = grind (arith, nat_tests)

-- and if it begins with no question mark either, the first bytes are the same
firsts : (p b : ℕ) (pattern name : List ℕ) → p ≢ star → p ≢ question_mark → matches (p ∷ pattern) (b ∷ name) ≡ true → p ≡ b
firsts p b pattern name not_star not_question h = grind (arith, nat_tests)

-- what passes the test is one of the cases
case_from_matches : (pattern name : List ℕ) → matches pattern name ≡ true → Matches pattern name
case_from_matches [] [] h = both_empty
case_from_matches [] (b ∷ name) h = cc
case_from_matches (p ∷ pattern) [] h = from_star p pattern [] (eqb-true p star h)
case_from_matches (p ∷ pattern) (b ∷ name) h =
    elim (cases_eq p star) [
      | inl e ↦ from_star p pattern (b ∷ name) e
      | inr not_star ↦
          elim (cases_eq p question_mark) [
            | inl e ↦ from_question_mark p b pattern name e (case_from_matches pattern name (rests p b pattern name not_star h))
            | inr not_question ↦ from_same_byte p b pattern name not_star not_question (firsts p b pattern name not_star not_question h) (case_from_matches pattern name (rests p b pattern name not_star h))
          ]
    ]

-- the test decides the relation
pub matches_decides : (pattern name : List ℕ) → Decides (matches pattern name) (Matches pattern name)
matches_decides pattern name = (case_from_matches pattern name, λ m. matches-from_case m)
