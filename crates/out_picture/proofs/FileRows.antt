-- The rows of files, a slot at a time.
use Rattle.std.proofs.Common.{◌≡◌, ℕ, ◌+◌, ◌-◌, ◌<◌, ◌≤◌, Bool, true, false, suc, List, [], ◌∷◌, ◌++◌, take, filter, sym, ap, ◌∙◌, append_assoc, arith}
use Rattle.std.specs.Prelude.{if◌then◌else◌}
use Rattle.std.specs.List.{flat_map, enumerate_from}

-- what is left of the rows: a row for each item that passes a test, with its place, up to a limit
abbrev pub rows_left : {A : Type 0} → (ℕ × A → List ℕ) → (A → Bool) → ℕ → ℕ → List A → List ℕ
rows_left row test limit place items = flat_map row (take (limit - place) (enumerate_from place (filter test items)))

-- an item that is found, and for which there is a place
rows_left-found : {A : Type 0} (row : ℕ × A → List ℕ) (test : A → Bool) (limit place : ℕ) (item : A) (items : List A) → place < limit → test item ≡ true
    → rows_left row test limit place (item ∷ items) ≡ row (place, item) ++ rows_left row test limit (place + 1) items
rows_left-found {A = A} row test limit place item items fits found =
    let next : limit - place ≡ suc (limit - (place + 1)) = omega arith in
    ap (λ (t : Bool). flat_map row (take (limit - place) (enumerate_from place (if t then item ∷ filter test items else filter test items)))) found
    ∙ ap (λ (n : ℕ). flat_map row (take n (enumerate_from place (item ∷ filter test items)))) next

-- one that isn't found
rows_left-other : {A : Type 0} (row : ℕ × A → List ℕ) (test : A → Bool) (limit place : ℕ) (item : A) (items : List A) → test item ≡ false
    → rows_left row test limit place (item ∷ items) ≡ rows_left row test limit place items
rows_left-other {A = A} row test limit place item items other =
    ap (λ (t : Bool). flat_map row (take (limit - place) (enumerate_from place (if t then item ∷ filter test items else filter test items)))) other

-- there is no place for more
rows_left-full : {A : Type 0} (row : ℕ × A → List ℕ) (test : A → Bool) (limit place : ℕ) (items : List A) → limit ≤ place → rows_left row test limit place items ≡ []
rows_left-full {A = A} row test limit place items full =
    let none : limit - place ≡ 0 = omega arith in
    ap (λ (n : ℕ). flat_map row (take n (enumerate_from place (filter test items)))) none

-- one row more
pub one_row : {A : Type 0} (row : ℕ × A → List ℕ) (test : A → Bool) (limit place : ℕ) (item : A) (items : List A) (before after whole : List ℕ) → place < limit → test item ≡ true
    → after ≡ before ++ row (place, item) → before ++ rows_left row test limit place (item ∷ items) ≡ whole
    → after ++ rows_left row test limit (place + 1) items ≡ whole
one_row {A = A} row test limit place item items before after whole fits found more so =
    ap (λ (t : List ℕ). t ++ rows_left row test limit (place + 1) items) more
    ∙ append_assoc before (row (place, item)) (rows_left row test limit (place + 1) items)
    ∙ ap (λ (t : List ℕ). before ++ t) (sym (rows_left-found row test limit place item items fits found))
    ∙ so

-- there are no more rows
pub no_row : {A : Type 0} (row : ℕ × A → List ℕ) (test : A → Bool) (limit place : ℕ) (item : A) (items : List A) (before whole : List ℕ) → test item ≡ false
    → before ++ rows_left row test limit place (item ∷ items) ≡ whole → before ++ rows_left row test limit place items ≡ whole
no_row {A = A} row test limit place item items before whole other so =
    ap (λ (t : List ℕ). before ++ t) (sym (rows_left-other row test limit place item items other)) ∙ so

-- there are no more rows, since no place is left
pub no_place : {A : Type 0} (row : ℕ × A → List ℕ) (test : A → Bool) (limit place : ℕ) (all items : List A) (before whole : List ℕ) → limit ≤ place
    → before ++ rows_left row test limit place all ≡ whole → before ++ rows_left row test limit place items ≡ whole
no_place {A = A} row test limit place all items before whole full so =
    ap (λ (t : List ℕ). before ++ t) (rows_left-full row test limit place items full ∙ sym (rows_left-full row test limit place all full)) ∙ so
