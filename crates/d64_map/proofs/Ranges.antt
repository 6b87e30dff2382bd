-- sums, counts and filters along a range that grows by one
use Rattle.std.proofs.Common.{◌≡◌, ℕ, zero, suc, ◌+◌, ◌&&◌, Bool, true, false, cond, leb, ltb, nat_eq, List, [], ◌∷◌, ◌++◌, refl, sym, ap, ◌∙◌, inl, inr, arith}
use Rattle.std.specs.List.{range_with_len, sum_by, count_by, filter, list_any}
use Rattle.std.specs.Ordering.{nat_cmp}
use Rattle.std.specs.FinSet as set
use Rattle.std.specs.FinSet.{contains-from_list_nat}
use Rattle.std.proofs.lemmas.Bool.{cases_Bool}
use Rattle.std.proofs.lemmas.Bool.Decides.{nat_tests, eqb_tells}
use Rattle.std.proofs.lemmas.List.{map-id, append-nil}
use Rattle.std.proofs.lemmas.List.Sums.{sum_by_push}
use Rattle.std.proofs.lemmas.List.FromFn.{map-range_with_len_more}

pub range_push : (a n : ℕ) → range_with_len a (n + 1) ≡ range_with_len a n ++ (a + n) ∷ []
range_push a n =
    sym (map-id (range_with_len a (n + 1))) ∙ map-range_with_len_more (λ (x : ℕ). x) a n (a + n) refl
    ∙ ap (λ (xs : List ℕ). xs ++ (a + n) ∷ []) (map-id (range_with_len a n))

pub sum_by-range_push : (f : ℕ → ℕ) (a n : ℕ) → sum_by f (range_with_len a (n + 1)) ≡ sum_by f (range_with_len a n) + f (a + n)
sum_by-range_push f a n = ap (sum_by f) (range_push a n) ∙ sum_by_push f (range_with_len a n) (a + n)

pub count_by-range_push : (p : ℕ → Bool) (a n : ℕ) → count_by p (range_with_len a (n + 1)) ≡ count_by p (range_with_len a n) + cond (p (a + n)) 1 0
count_by-range_push p a n = sum_by-range_push (λ (x : ℕ). cond (p x) 1 0) a n

filter_push : (p : ℕ → Bool) (xs : List ℕ) (x : ℕ) → filter p (xs ++ x ∷ []) ≡ filter p xs ++ cond (p x) (x ∷ []) []
filter_push p [] x = refl
filter_push p (y ∷ xs) x =
    elim (p y) as (λ (b : Bool). cond b (y ∷ filter p (xs ++ x ∷ [])) (filter p (xs ++ x ∷ [])) ≡ cond b (y ∷ filter p xs) (filter p xs) ++ cond (p x) (x ∷ []) []) [
      | true ↦ ap (λ (ys : List ℕ). y ∷ ys) (filter_push p xs x)
      | false ↦ filter_push p xs x
    ]

pub filter-range_push : (p : ℕ → Bool) (a n : ℕ) → filter p (range_with_len a (n + 1)) ≡ filter p (range_with_len a n) ++ cond (p (a + n)) ((a + n) ∷ []) []
filter-range_push p a n = ap (filter p) (range_push a n) ∙ filter_push p (range_with_len a n) (a + n)

-- what a test adds to a count
abbrev tally : Bool → ℕ
tally b = cond b 1 0

-- one step of a count
pub count_more : (p : ℕ → Bool) (a n c d : ℕ) → c ≡ count_by p (range_with_len a n) → p (a + n) ≡ true → d ≡ c + 1 → d ≡ count_by p (range_with_len a (n + 1))
count_more p a n c d counted passes more =
    let s = count_by-range_push p a n in
    let t = ap tally passes in
    omega arith

-- one step of a sum
pub sum_more : (f : ℕ → ℕ) (a n c d : ℕ) → c ≡ sum_by f (range_with_len a n) → d ≡ c + f (a + n) → d ≡ sum_by f (range_with_len a (n + 1))
sum_more f a n c d summed more = let s = sum_by-range_push f a n in omega arith

-- a filtered range that grows by a number that passes, and by one that fails
pub filter_more : (p : ℕ → Bool) (a n : ℕ) → p (a + n) ≡ true → filter p (range_with_len a (n + 1)) ≡ filter p (range_with_len a n) ++ (a + n) ∷ []
filter_more p a n passes =
    filter-range_push p a n ∙ ap (λ (b : Bool). filter p (range_with_len a n) ++ cond b ((a + n) ∷ []) []) passes

pub filter_same : (p : ℕ → Bool) (a n : ℕ) → p (a + n) ≡ false → filter p (range_with_len a (n + 1)) ≡ filter p (range_with_len a n)
filter_same p a n fails =
    filter-range_push p a n ∙ ap (λ (b : Bool). filter p (range_with_len a n) ++ cond b ((a + n) ∷ []) []) fails
    ∙ append-nil (filter p (range_with_len a n))

-- whether a number lies in a range
pub any-range : (a n q : ℕ) → list_any (λ y. nat_eq y q) (range_with_len a n) ≡ (leb a q && ltb q (a + n))
any-range a zero q = grind (arith, nat_tests)
any-range a (suc n) q = let e = any-range (a + 1) n q in grind (arith, nat_tests)

-- the members of a filtered list
any-filter : (p : ℕ → Bool) (q : ℕ) (xs : List ℕ) → list_any (λ y. nat_eq y q) (filter p xs) ≡ (list_any (λ y. nat_eq y q) xs && p q)
any-filter p q [] = refl
any-filter p q (x ∷ xs) =
    elim (eqb_tells x q) [
      | inl e ↦ elim (cases_Bool (p x)) [
        | inl passes ↦ let r = any-filter p q xs in let z : p q ≡ true = ap p (sym e.1) ∙ passes in
            ap (λ (b : Bool). list_any (λ y. nat_eq y q) (cond b (x ∷ filter p xs) (filter p xs))) passes ∙ grind (arith, nat_tests)
        | inr fails ↦ let r = any-filter p q xs in let z : p q ≡ false = ap p (sym e.1) ∙ fails in
            ap (λ (b : Bool). list_any (λ y. nat_eq y q) (cond b (x ∷ filter p xs) (filter p xs))) fails ∙ r ∙ grind (arith, nat_tests)
      ]
      | inr e ↦ elim (cases_Bool (p x)) [
        | inl passes ↦ let r = any-filter p q xs in
            ap (λ (b : Bool). list_any (λ y. nat_eq y q) (cond b (x ∷ filter p xs) (filter p xs))) passes ∙ grind (arith, nat_tests)
        | inr fails ↦ let r = any-filter p q xs in
            ap (λ (b : Bool). list_any (λ y. nat_eq y q) (cond b (x ∷ filter p xs) (filter p xs))) fails ∙ r ∙ grind (arith, nat_tests)
      ]
    ]

-- the members of a filtered list, as a set
pub contains-filtered : (p : ℕ → Bool) (xs : List ℕ) (q : ℕ)
    → set.contains (set.from_list {R = nat_cmp} (filter p xs)) q ≡ (list_any (λ y. nat_eq y q) xs && p q)
contains-filtered p xs q = contains-from_list_nat (filter p xs) q ∙ any-filter p q xs

-- one step of a sum over what passes
pub passed_more : (f : ℕ → ℕ) (p : ℕ → Bool) (done : List ℕ) (k c d : ℕ) → c ≡ sum_by f (filter p done) → p k ≡ true → d ≡ c + f k → d ≡ sum_by f (filter p (done ++ k ∷ []))
passed_more f p done k c d summed passes more =
    more ∙ ap (λ (x : ℕ). x + f k) summed ∙ sym (sum_by_push f (filter p done) k)
    ∙ ap (sum_by f) (sym (filter_push p done k ∙ ap (λ (b : Bool). filter p done ++ cond b (k ∷ []) []) passes))

pub passed_same : (f : ℕ → ℕ) (p : ℕ → Bool) (done : List ℕ) (k c d : ℕ) → c ≡ sum_by f (filter p done) → p k ≡ false → d ≡ c → d ≡ sum_by f (filter p (done ++ k ∷ []))
passed_same f p done k c d summed fails same =
    same ∙ summed
    ∙ ap (sum_by f) (sym (filter_push p done k ∙ ap (λ (b : Bool). filter p done ++ cond b (k ∷ []) []) fails ∙ append-nil (filter p done)))
