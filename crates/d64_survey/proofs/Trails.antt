-- How far a way has come: which blocks it has, and how many of the image are left.
use Rattle.std.proofs.Common.{◌≡◌, ℕ, zero, suc, ◌+◌, ◌<◌, ◌||◌, true, false, eqb, List, [], ◌∷◌, ◌++◌, length, get_or, refl, sym, ◌∙◌, subst, inl, inr, arith, length-append}
use Rattle.std.specs.List.{list_any, IsDistinct}
use Rattle.std.specs.Ordering.{nat_cmp}
use Rattle.std.specs.Cmp.{nat_eq_equiv}
use Rattle.std.specs.FinSet as set
use Rattle.std.proofs.lemmas.Bool.{or_cases, eqb-true, eq-eqb}
use Rattle.std.proofs.lemmas.List.Folds.{list_any-append, list_any_at}
use Rattle.std.proofs.lemmas.Map.Keys.{IsDistinct-push}
use Rattle.d64_files.specs.Chain.{LieIn}
use Rattle.d64_files.proofs.Walks.{room}
use Rattle.d64_survey.specs.Way.{way, way_on, block_at}

-- the blocks of a way so far are distinct ones of the image, which has n others
pub record Trail (image : List (List ℕ)) (left : ℕ) (walked : List ℕ) : Type 0 where
  pub counted : length walked + left ≡ length image
  pub distinct : IsDistinct eqb walked
  pub within : (q : ℕ) → list_any (eqb q) walked ≡ true → q < length image

-- a way before its first block
pub begun : (image : List (List ℕ)) → Trail image (length image) []
unfolding IsDistinct
begun image = record { counted = omega arith; distinct = tt; within = λ q found. let f : false ≡ true = found in cc }

-- a way with one more block
pub added : (image : List (List ℕ)) (left : ℕ) (walked : List ℕ) (block : ℕ) → Trail image (suc left) walked → list_any (eqb block) walked ≡ false → block < length image
    → Trail image left (walked ++ block ∷ [])
added image left walked block trail fresh inside =
    let counted = trail.counted in
    record {
      counted = omega (arith, length-append walked (block ∷ []));
      distinct = IsDistinct-push nat_eq_equiv walked block trail.distinct fresh;
      within = λ q found. elim (or_cases (list_any (eqb q) walked) (eqb q block || false) (sym (list_any-append (eqb q) walked (block ∷ [])) ∙ found)) [
        | inl t ↦ trail.within q t
        | inr t ↦ elim (or_cases (eqb q block) false t) [
          | inl e ↦ subst (λ (b : ℕ). b < length image) (sym (eqb-true q block e)) inside
          | inr f ↦ cc
        ]
      ];
    }

-- if a block of the image isn't walked yet, there is one left
pub some_left : (image : List (List ℕ)) (left : ℕ) (walked : List ℕ) (block : ℕ) → Trail image left walked → list_any (eqb block) walked ≡ false → block < length image
    → (rest : ℕ) × (left ≡ suc rest)
some_left image zero walked block trail fresh inside =
    let shorter = room walked block (length image) trail.distinct trail.within fresh inside in
    let counted = trail.counted in absurd (omega arith)
some_left image (suc left) walked block trail fresh inside = (left, refl)

-- the image has each block of a way so far
pub lies : (image : List (List ℕ)) (left : ℕ) (walked : List ℕ) → Trail image left walked → LieIn image walked
lies image left walked trail k d inside =
    let block = get_or walked k d in trail.within block (list_any_at (eqb block) walked k d inside (eq-eqb block block refl))

-- a walk has come to a pair: the rest of the way is the way
pub record Walking (image : List (List ℕ)) (first : ℕ × ℕ) (walked : List ℕ) (seen : set.FinSet nat_cmp) (pair : ℕ × ℕ) : Type 0 where
  pub left : ℕ
  pub trail : Trail image left walked
  pub members : (q : ℕ) → set.contains seen q ≡ list_any (eqb q) walked
  pub is : way image first ≡ way_on left image walked pair (block_at image pair)
