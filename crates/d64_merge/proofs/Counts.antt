-- How many elements of a list pass a test, and the first that does
use Rattle.std.proofs.Common.{◌≡◌, ℕ, ◌+◌, ◌≤◌, Bool, true, false, cond, Some, None, List, [], ◌∷◌, length, refl, sym, ap, ◌∙◌, subst, arith, inl, inr}
use Rattle.std.specs.List.{All, count_by, find, position, position_or_len}
use Rattle.std.proofs.lemmas.Bool.{cases_lt, lt-ltb, le-ltb}
use Rattle.std.proofs.lemmas.List.Sums.{sum_by-cons}
use Rattle.std.proofs.lemmas.List.Folds.{find_at}
use Rattle.std.proofs.lemmas.List.Elements.{All-nil, All-cons, All-head, All-tail}
use Rattle.std.proofs.lemmas.Option.{same_Some, slice_get_past}
use Rattle.d64_survey.specs.Dump.{DumpView}
use Rattle.d64_merge.specs.Choices.{dump_at}

-- 1 for an element that passes, and 0 for another one
abbrev so : Bool → ℕ
so b = cond b 1 0

counted : {X : Type 0} (p : X → Bool) (x : X) (xs : List X) → count_by p (x ∷ xs) ≡ so (p x) + count_by p xs
counted p x xs = sum_by-cons (λ x. cond (p x) 1 0) x xs

-- if no element passes, none is counted, and the converse
pub count_none : {X : Type 0} (p : X → Bool) (xs : List X) → All (λ x. p x ≡ false) xs → count_by p xs ≡ 0
count_none p [] all = refl
count_none p (x ∷ xs) all =
    let c = counted p x xs in
    let h : so (p x) ≡ 0 = ap (λ (b : Bool). so b) (All-head (λ x. p x ≡ false) x xs all) in
    let r = count_none p xs (All-tail (λ x. p x ≡ false) x xs all) in
    omega (arith, c, h, r)

zero : (b : Bool) → so b ≡ 0 → b ≡ false
zero true e = absurd (omega (arith, e))
zero false e = refl

pub none_counted : {X : Type 0} (p : X → Bool) (xs : List X) → count_by p xs ≡ 0 → All (λ x. p x ≡ false) xs
none_counted p [] e = All-nil (λ x. p x ≡ false)
none_counted p (x ∷ xs) e =
    let c = counted p x xs in
    All-cons (λ x. p x ≡ false) x xs (zero (p x) (omega (arith, c, e))) (none_counted p xs (omega (arith, c, e)))

-- no more elements pass a test than one that it implies
less : (a b : Bool) → (a ≡ true → b ≡ true) → so a ≤ so b
less true true h = omega arith
less true false h = let wrong : false ≡ true = h refl in absurd (cc)
less false true h = omega arith
less false false h = omega arith

pub fewer : {X : Type 0} (p q : X → Bool) → ((x : X) → p x ≡ true → q x ≡ true) → (xs : List X) → count_by p xs ≤ count_by q xs
fewer p q h [] = omega arith
fewer p q h (x ∷ xs) =
    let a = counted p x xs in
    let b = counted q x xs in
    let l = less (p x) (q x) (h x) in
    let r = fewer p q h xs in
    omega (arith, a, b, l, r)

-- if as many pass both, the same elements pass both
also : (a b : Bool) → so b ≤ so a → b ≡ true → a ≡ true
also true b e is = refl
also false true e is = absurd (omega (arith, e))
also false false e is = is

pub tight : {X : Type 0} (p q : X → Bool) → ((x : X) → p x ≡ true → q x ≡ true) → (xs : List X) → count_by p xs ≡ count_by q xs
    → All (λ x. q x ≡ true → p x ≡ true) xs
tight p q h [] e = All-nil (λ x. q x ≡ true → p x ≡ true)
tight p q h (x ∷ xs) e =
    let a = counted p x xs in
    let b = counted q x xs in
    let l = less (p x) (q x) (h x) in
    let r = fewer p q h xs in
    All-cons (λ x. q x ≡ true → p x ≡ true) x xs (also (p x) (q x) (omega (arith, a, b, e, l, r))) (tight p q h xs (omega (arith, a, b, e, l, r)))

-- two tests that imply a third, and of which no element passes both: together they count no more
-- elements than the third
both : (a b c : Bool) → (a ≡ true → c ≡ true) → (b ≡ true → c ≡ true) → (a ≡ true → b ≡ false) → so a + so b ≤ so c
both true true c h k n = let wrong : true ≡ false = n refl in absurd (cc)
both true false true h k n = omega arith
both true false false h k n = let wrong : false ≡ true = h refl in absurd (cc)
both false true true h k n = omega arith
both false true false h k n = let wrong : false ≡ true = k refl in absurd (cc)
both false false c h k n = omega arith

pub apart : {X : Type 0} (p q r : X → Bool) → ((x : X) → p x ≡ true → r x ≡ true) → ((x : X) → q x ≡ true → r x ≡ true) → ((x : X) → p x ≡ true → q x ≡ false)
    → (xs : List X) → count_by p xs + count_by q xs ≤ count_by r xs
apart p q r h k n [] = omega arith
apart p q r h k n (x ∷ xs) =
    let a = counted p x xs in
    let b = counted q x xs in
    let c = counted r x xs in
    let here = both (p x) (q x) (r x) (h x) (k x) (n x) in
    let rest = apart p q r h k n xs in
    omega (arith, a, b, c, here, rest)

-- equal tests count the same number of elements
pub same_count : {X : Type 0} (p q : X → Bool) → ((x : X) → p x ≡ q x) → (xs : List X) → count_by p xs ≡ count_by q xs
same_count p q h [] = refl
same_count p q h (x ∷ xs) =
    let a = counted p x xs in
    let b = counted q x xs in
    let l : so (p x) ≡ so (q x) = ap (λ (b : Bool). so b) (h x) in
    let r = same_count p q h xs in
    omega (arith, a, b, l, r)

-- what holds of all elements holds of the first one that passes; if there is no first one, no
-- element passes
pub find_all : {X : Type 0} (p : X → Bool) (P : X → Type 0) (xs : List X) → All P xs → (x : X) → find p xs ≡ Some x → P x × (p x ≡ true)
find_all p P [] all x is = absurd (cc)
find_all {X} p P (y ∷ xs) all x is = go (find_all p P xs (All-tail P y xs all) x) (p y) refl is
  where
    go : (find p xs ≡ Some x → P x × (p x ≡ true)) → (t : Bool) → p y ≡ t → cond t (Some y) (find p xs) ≡ Some x → P x × (p x ≡ true)
    go later true t is = let e : y ≡ x = same_Some y x is in (subst P e (All-head P y xs all), sym (ap p e) ∙ t)
    go later false t is = later is

pub find_none : {X : Type 0} (p : X → Bool) (xs : List X) → find p xs ≡ None → All (λ x. p x ≡ false) xs
find_none p [] is = All-nil (λ x. p x ≡ false)
find_none {X} p (y ∷ xs) is = go (find_none p xs) (p y) refl is
  where
    go : (find p xs ≡ None → All (λ x. p x ≡ false) xs) → (t : Bool) → p y ≡ t → cond t (Some y) (find p xs) ≡ None → All (λ x. p x ≡ false) (y ∷ xs)
    go later true t is = absurd (cc)
    go later false t is = All-cons (λ x. p x ≡ false) y xs t (later is)

-- the dump at the place of the first one that passes
pub found : (p : DumpView → Bool) (dumps : List DumpView) → dump_at dumps (position p dumps) ≡ find p dumps
found p dumps = elim (cases_lt (position_or_len p dumps) (length dumps)) [
  | inl less ↦ ap (λ (b : Bool). dump_at dumps (cond b (Some (position_or_len p dumps)) None)) (lt-ltb _ _ less) ∙ sym (find_at p dumps)
  | inr more ↦ ap (λ (b : Bool). dump_at dumps (cond b (Some (position_or_len p dumps)) None)) (le-ltb _ _ more)
      ∙ sym (slice_get_past dumps (position_or_len p dumps) more) ∙ sym (find_at p dumps)
]
