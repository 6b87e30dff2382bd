-- how often a number occurs in a list
use Rattle.std.proofs.Common.{◌≡◌, ℕ, zero, suc, ◌+◌, ◌<◌, ◌≤◌, ◌||◌, Bool, true, false, cond, eqb, List, [], ◌∷◌, ◌++◌, length, get_or, set, refl, sym, ap, ◌∙◌, subst, inl, inr, arith}
use Rattle.std.specs.Prelude.{All}
use Rattle.std.specs.List.{list_any, IsDistinct, flat_map}
use Rattle.std.proofs.lemmas.Bool.{or_parts, or_from, eq-eqb}
use Rattle.std.proofs.lemmas.Bool.Decides.{eqb_tells}
use Rattle.std.proofs.lemmas.List.Elements.{All-nil, All-cons, All-head, All-tail}
use Rattle.d64_files.specs.Claims.{has_repeats}
use Rattle.d64_files.proofs.Repeats.{no_repeats, distinct_blocks}

-- a test as a number
abbrev pub tally : Bool → ℕ
tally b = cond b 1 0

-- how often a number occurs
abbrev pub occurs : ℕ → List ℕ → ℕ
occurs q [] = 0
occurs q (x ∷ xs) = tally (eqb q x) + occurs q xs

-- in lists one after another as often as in each
pub occurs-append : (q : ℕ) (xs ys : List ℕ) → occurs q (xs ++ ys) ≡ occurs q xs + occurs q ys
occurs-append q [] ys = omega arith
occurs-append q (x ∷ xs) ys = let e = occurs-append q xs ys in omega arith

-- a number that isn't among others doesn't occur
pub occurs-absent : (q : ℕ) (xs : List ℕ) → list_any (eqb q) xs ≡ false → occurs q xs ≡ 0
occurs-absent q [] h = refl
occurs-absent q (x ∷ xs) h =
    let p = or_parts (eqb q x) (list_any (eqb q) xs) h in
    let e = occurs-absent q xs p.1 in
    ap (λ (b : Bool). tally b + occurs q xs) p.0 ∙ omega arith

-- one that is among others does
pub occurs-present : (q : ℕ) (xs : List ℕ) → list_any (eqb q) xs ≡ true → 1 ≤ occurs q xs
occurs-present q [] h = cc
occurs-present q (x ∷ xs) h =
    elim (eqb_tells q x) [
      | inl e ↦ let f = ap (λ (b : Bool). tally b + occurs q xs) e.0 in omega arith
      | inr e ↦
          let f = ap (λ (b : Bool). tally b + occurs q xs) e.0 in
          let g = occurs-present q xs (sym (ap (λ (b : Bool). b || list_any (eqb q) xs) e.0) ∙ h) in
          omega arith
    ]

-- one that doesn't occur isn't among others, and one that does is
pub absent-from_occurs : (q : ℕ) (xs : List ℕ) → occurs q xs ≡ 0 → list_any (eqb q) xs ≡ false
absent-from_occurs q xs h = by_test (list_any (eqb q) xs) refl
  where
    by_test : (b : Bool) → list_any (eqb q) xs ≡ b → b ≡ false
    by_test true e = let f = occurs-present q xs e in absurd (omega arith)
    by_test false e = refl

pub present-from_occurs : (q : ℕ) (xs : List ℕ) → 1 ≤ occurs q xs → list_any (eqb q) xs ≡ true
present-from_occurs q xs h = by_test (list_any (eqb q) xs) refl
  where
    by_test : (b : Bool) → list_any (eqb q) xs ≡ b → b ≡ true
    by_test true e = refl
    by_test false e = let f = occurs-absent q xs e in absurd (omega arith)

-- in a list without repeats a number occurs at most once
once : (xs : List ℕ) → has_repeats xs ≡ false → (q : ℕ) → occurs q xs ≤ 1
once [] h q = omega arith
once (x ∷ xs) h q =
    let p = or_parts (list_any (eqb x) xs) (has_repeats xs) h in
    elim (eqb_tells q x) [
      | inl e ↦
          let f = ap (λ (b : Bool). tally b + occurs q xs) e.0 in
          let g = occurs-absent q xs (ap (λ (y : ℕ). list_any (eqb y) xs) e.1 ∙ p.0) in
          omega arith
      | inr e ↦ let f = ap (λ (b : Bool). tally b + occurs q xs) e.0 in let g = once xs p.1 q in omega arith
    ]

pub occurs-distinct : (xs : List ℕ) → IsDistinct eqb xs → (q : ℕ) → occurs q xs ≤ 1
occurs-distinct xs d q = once xs (no_repeats xs d) q

-- a list in which each number occurs at most once has no repeats
unrepeated : (xs : List ℕ) → ((q : ℕ) → occurs q xs ≤ 1) → has_repeats xs ≡ false
unrepeated [] h = refl
unrepeated (x ∷ xs) h =
    let here = h x in
    let same = ap (λ (b : Bool). tally b + occurs x xs) (eq-eqb x x refl) in
    or_from (list_any (eqb x) xs) (has_repeats xs) (absent-from_occurs x xs (omega arith))
    (unrepeated xs (λ q. let g = h q in omega arith))

pub distinct-from_occurs : (xs : List ℕ) → ((q : ℕ) → occurs q xs ≤ 1) → IsDistinct eqb xs
distinct-from_occurs xs h = distinct_blocks xs (unrepeated xs h)

-- what holds of each number of a list
pub All-from_occurs : (P : ℕ → Type 0) (xs : List ℕ) → ((q : ℕ) → 1 ≤ occurs q xs → P q) → All P xs
All-from_occurs P [] h = All-nil P
All-from_occurs P (x ∷ xs) h =
    let same = ap (λ (b : Bool). tally b + occurs x xs) (eq-eqb x x refl) in
    All-cons P x xs (h x (omega arith)) (All-from_occurs P xs (λ q g. h q (omega arith)))

pub occurs-from_All : (P : ℕ → Type 0) (xs : List ℕ) (q : ℕ) → All P xs → 1 ≤ occurs q xs → P q
occurs-from_All P [] q all h = absurd (omega arith)
occurs-from_All P (x ∷ xs) q all h =
    elim (eqb_tells q x) [
      | inl e ↦ subst P (sym e.1) (All-head P x xs all)
      | inr e ↦
          let f = ap (λ (b : Bool). tally b + occurs q xs) e.0 in
          occurs-from_All P xs q (All-tail P x xs all) (omega arith)
    ]

-- lists one after another
abbrev pub joined : List (List ℕ) → List ℕ
joined xss = flat_map (λ xs. xs) xss

-- an empty list that is replaced by another
pub occurs-set : (q : ℕ) (xss : List (List ℕ)) (place : ℕ) (ys : List ℕ) → place < length xss → get_or xss place [] ≡ []
    → occurs q (joined (set xss place ys)) ≡ occurs q (joined xss) + occurs q ys
occurs-set q [] place ys within empty = absurd (omega arith)
occurs-set q (xs ∷ xss) zero ys within empty =
    let e = occurs-append q ys (joined xss) in
    let f = occurs-append q xs (joined xss) in
    let g = ap (occurs q) empty in
    omega arith
occurs-set q (xs ∷ xss) (suc place) ys within empty =
    let e = occurs-append q xs (joined (set xss place ys)) in
    let f = occurs-append q xs (joined xss) in
    let g = occurs-set q xss place ys (omega arith) empty in
    omega arith
