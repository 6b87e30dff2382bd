-- The first name that is free.
use Rattle.std.proofs.Common.{◌≡◌, ℕ, zero, suc, ◌+◌, ◌^◌, ◌<◌, ◌≤◌, Bool, true, false, not, cond, Option, Some, None, List, length, All, refl, sym, ap, subst, ◌∙◌, inl, inr, arith}
use Rattle.std.specs.Prelude.{map, unwrap_or}
use Rattle.std.specs.List.{find, range_with_len, IsDistinct}
use Rattle.std.specs.Set.{is_member}
use Rattle.std.proofs.lemmas.Bool.{cases_eq, cases_order, both_ways, false_from_ne_true, not-true, not_from_true, not_from_false}
use Rattle.std.proofs.lemmas.List.Elements.{All-map, All-from_get_or, recursion_from_All}
use Rattle.std.proofs.lemmas.List.Folds.{Any-from_list_any}
use Rattle.std.proofs.lemmas.List.FromFn.{length-range_with_len, get_or-range_with_len, length-map-range_with_len, get_or-map-range_with_len}
use Rattle.std.proofs.lemmas.Map.Keys.{IsDistinct-cons}
use Rattle.std.proofs.lemmas.Map.Made.{length-le_from_is_member}
use Rattle.host_names.specs.HostName.{is_same_name, numbered_name}
use Rattle.host_names.specs.TakenNames.{is_taken, is_name_free, first_free}
use Rattle.host_names.proofs.SameNames.{same_laws, taken_alike}
use Rattle.host_names.proofs.Numbers.{same_number}

-- the result of a search among n numbers from one on: the first that passes, or None if none does
abbrev FoundIn : (ℕ → Bool) → ℕ → ℕ → Option ℕ → Type 0
FoundIn p from count None = (n : ℕ) → from ≤ n → n < from + count → p n ≡ false
FoundIn p from count (Some n) = (from ≤ n) × (n < from + count) × (p n ≡ true) × ((k : ℕ) → from ≤ k → k < n → p k ≡ false)

-- the same from one number before, which does not pass
widen : (p : ℕ → Bool) (from count : ℕ) → p from ≡ false → (o : Option ℕ) → FoundIn p (from + 1) count o → FoundIn p from (suc count) o
widen p from count fails None all = λ n low high. elim (cases_eq n from) [ inl is ↦ ap p is ∙ fails | inr other ↦ all n (omega arith) (omega arith) ]
widen p from count fails (Some n) found = (
  omega (arith, found.0),
  omega (arith, found.1),
  found.2,
  λ k low high. elim (cases_eq k from) [ inl is ↦ ap p is ∙ fails | inr other ↦ found.3 k (omega arith) high ],
)

found_in : (p : ℕ → Bool) (from count : ℕ) → FoundIn p from count (find p (range_with_len from count))
found_in p from zero = λ n low high. absurd (omega arith)
found_in p from (suc count) = by_test (found_in p (from + 1) count) (p from) refl
  where
    by_test : FoundIn p (from + 1) count (find p (range_with_len (from + 1) count)) → (t : Bool) → p from ≡ t
        → FoundIn p from (suc count) (cond t (Some from) (find p (range_with_len (from + 1) count)))
    by_test others true passes = (omega arith, omega arith, passes, λ k low high. absurd (omega arith))
    by_test others false fails = widen p from count fails (find p (range_with_len (from + 1) count)) others

-- the first that passes is found
is_found : (p : ℕ → Bool) (from count n : ℕ) → from ≤ n → n < from + count → p n ≡ true → ((k : ℕ) → from ≤ k → k < n → p k ≡ false)
    → find p (range_with_len from count) ≡ Some n
is_found p from count n low high passes before = by_result (find p (range_with_len from count)) (found_in p from count)
  where
    by_result : (o : Option ℕ) → FoundIn p from count o → o ≡ Some n
    by_result None all = absurd (both_ways (p n) (all n low high) passes)
    by_result (Some m) found =
        elim (cases_order m n) [
          | inl is ↦ ap Some is
          | inr apart ↦ elim apart [
            | inl below ↦ absurd (both_ways (p m) (before m found.0 below) found.2)
            | inr above ↦ absurd (both_ways (p n) (found.3 n low above) passes)
          ]
        ]

-- if no number passes, the search finds none
none_is_found : (p : ℕ → Bool) (from count : ℕ) → ((k : ℕ) → from ≤ k → k < from + count → p k ≡ false) → find p (range_with_len from count) ≡ None
none_is_found p from count all = by_result (find p (range_with_len from count)) (found_in p from count)
  where
    by_result : (o : Option ℕ) → FoundIn p from count o → o ≡ None
    by_result None found = refl
    by_result (Some m) found = absurd (both_ways (p m) (all m found.0 found.1) found.2)

-- ---- the first free name

-- the first free name is found, if the ones before it are taken
pub first_free_at : (taken : List (List ℕ)) (front back : List ℕ) (number : ℕ) → 1 ≤ number → number ≤ length taken
    → is_taken taken (numbered_name front back number) ≡ false
    → ((k : ℕ) → 1 ≤ k → k < number → is_taken taken (numbered_name front back k) ≡ true) → number ≡ first_free taken front back
unfolding first_free
first_free_at taken front back number low high free before =
    ap (λ (o : Option ℕ). unwrap_or o (length taken + 1))
    (sym (is_found (is_name_free taken front back) 1 (length taken) number low (omega arith) (not_from_false (is_taken taken (numbered_name front back number)) free)
    (λ k from below. not_from_true (is_taken taken (numbered_name front back k)) (before k from below))))

-- the one after those, as many as names are taken, if all of them are taken
pub first_free_past : (taken : List (List ℕ)) (front back : List ℕ)
    → ((k : ℕ) → 1 ≤ k → k < length taken + 1 → is_taken taken (numbered_name front back k) ≡ true) → length taken + 1 ≡ first_free taken front back
unfolding first_free
first_free_past taken front back before =
    ap (λ (o : Option ℕ). unwrap_or o (length taken + 1))
    (sym (none_is_found (is_name_free taken front back) 1 (length taken) (λ k from below. not_from_true (is_taken taken (numbered_name front back k)) (before k from (omega arith)))))

-- ---- one of them is free

-- the names that are tried differ
tries_differ : (front back : List ℕ) (from count : ℕ) → from + count ≤ 2 ^ 64 → IsDistinct is_same_name (map (numbered_name front back) (range_with_len from count))
unfolding IsDistinct
tries_differ front back from zero within = tt
tries_differ front back from (suc count) within =
    let tried = numbered_name front back in
    let others = range_with_len (from + 1) count in
    let Differs : List ℕ → Type 0 = λ other. is_same_name (tried from) other ≡ false in
    let differ : All (λ n. Differs (tried n)) others =
    All-from_get_or (λ n. Differs (tried n)) others 0
    (λ i below.
    let inside : i < count = omega (arith, length-range_with_len (from + 1) count) in
    subst (λ (n : ℕ). Differs (tried n)) (sym (get_or-range_with_len (from + 1) count i 0 inside))
    (false_from_ne_true (is_same_name (tried from) (tried (from + 1 + i)))
    (λ same. let equal : from ≡ from + 1 + i = same_number front back from (from + 1 + i) (omega arith) (omega arith) same in omega arith))) in
    IsDistinct-cons is_same_name (tried from) (map tried others) (recursion_from_All Differs (map tried others) (All-map Differs tried others differ))
    (tries_differ front back (from + 1) count (omega arith))

-- so not one more than are taken are all taken
not_all_taken : (taken : List (List ℕ)) (front back : List ℕ) → length taken + 1 < 2 ^ 64
    → ((number : ℕ) → 1 ≤ number → number ≤ length taken + 1 → is_taken taken (numbered_name front back number) ≡ true) → ⊥
not_all_taken taken front back small all =
    let tried = numbered_name front back in
    let count = length taken + 1 in
    let tries = map tried (range_with_len 1 count) in
    let are_taken : (name : List ℕ) → is_member is_same_name tries name ≡ true → is_member is_same_name taken name ≡ true =
    λ name member.
    let any = Any-from_list_any (is_same_name name) tries member in
    let place : any.0 < count = omega (arith, any.2, length-map-range_with_len tried 1 count) in
    let is : tried (1 + any.0) ≡ any.1 = sym (get_or-map-range_with_len tried 1 count any.0 (1 + any.0) any.1 place refl) ∙ any.3 in
    taken_alike taken name any.1 any.4 ∙ ap (is_taken taken) (sym is) ∙ all (1 + any.0) (omega arith) (omega arith) in
    let fits : length tries ≤ length taken = length-le_from_is_member same_laws tries taken (tries_differ front back 1 count (omega arith)) are_taken in
    omega (arith, length-map-range_with_len tried 1 count)

-- the place of the first free name
pub first_free_within : (taken : List (List ℕ)) (front back : List ℕ) → (1 ≤ first_free taken front back) × (first_free taken front back ≤ length taken + 1)
unfolding first_free
first_free_within taken front back = by_result (find (is_name_free taken front back) (range_with_len 1 (length taken))) (found_in (is_name_free taken front back) 1 (length taken))
  where
    by_result : (o : Option ℕ) → FoundIn (is_name_free taken front back) 1 (length taken) o → (1 ≤ unwrap_or o (length taken + 1)) × (unwrap_or o (length taken + 1) ≤ length taken + 1)
    by_result None found = (omega arith, omega arith)
    by_result (Some n) found = (found.0, omega (arith, found.1))

-- it is free
pub first_is_free : (taken : List (List ℕ)) (front back : List ℕ) → length taken + 1 < 2 ^ 64 → is_taken taken (numbered_name front back (first_free taken front back)) ≡ false
unfolding first_free
first_is_free taken front back small = by_result (find (is_name_free taken front back) (range_with_len 1 (length taken))) (found_in (is_name_free taken front back) 1 (length taken))
  where
    last : (found : FoundIn (is_name_free taken front back) 1 (length taken) None) → (t : Bool) → is_taken taken (numbered_name front back (length taken + 1)) ≡ t → t ≡ false
    last found false is = refl
    last found true is =
        absurd (not_all_taken taken front back small
        (λ number low high.
        elim (cases_eq number (length taken + 1)) [
          | inl end ↦ ap (λ (n : ℕ). is_taken taken (numbered_name front back n)) end ∙ is
          | inr other ↦ is_taken_from (is_taken taken (numbered_name front back number)) (found number low (omega arith))
        ]))
      where
        is_taken_from : (t : Bool) → not t ≡ false → t ≡ true
        is_taken_from true e = refl
        is_taken_from false e = absurd (cc)

    by_result : (o : Option ℕ) → FoundIn (is_name_free taken front back) 1 (length taken) o → is_taken taken (numbered_name front back (unwrap_or o (length taken + 1))) ≡ false
    by_result None found = last found (is_taken taken (numbered_name front back (length taken + 1))) refl
    by_result (Some n) found = not-true (is_taken taken (numbered_name front back n)) found.2

-- the names before it are taken
pub before_first_free : (taken : List (List ℕ)) (front back : List ℕ) (k : ℕ) → 1 ≤ k → k < first_free taken front back → is_taken taken (numbered_name front back k) ≡ true
unfolding first_free
before_first_free taken front back k low below = by_result (find (is_name_free taken front back) (range_with_len 1 (length taken))) (found_in (is_name_free taken front back) 1 (length taken)) below
  where
    taken_from : (t : Bool) → not t ≡ false → t ≡ true
    taken_from true e = refl
    taken_from false e = absurd (cc)

    by_result : (o : Option ℕ) → FoundIn (is_name_free taken front back) 1 (length taken) o → k < unwrap_or o (length taken + 1) → is_taken taken (numbered_name front back k) ≡ true
    by_result None found under = taken_from (is_taken taken (numbered_name front back k)) (found k low (omega arith))
    by_result (Some n) found under = taken_from (is_taken taken (numbered_name front back k)) (found.3 k low under)
