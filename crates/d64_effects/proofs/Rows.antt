-- lists with one more row: in place of one that is there, or as the first of eight more
use Rattle.std.proofs.Common.{◌≡◌, ℕ, suc, ◌+◌, ◌<◌, Bool, true, false, cond, List, [], ◌∷◌, ◌++◌, length, map, drop, get_or, set, Option, Some, None, refl, sym, ap, ap₂, ◌∙◌, subst, arith}
use Rattle.std.specs.Prelude.{All, IfSome, position, replicate, option_map}
use Rattle.std.specs.List.{flat_map, position_from}
use Rattle.std.proofs.lemmas.List.{map-set, map-append}
use Rattle.std.proofs.lemmas.List.Concat.{flat_map-append}
use Rattle.std.proofs.lemmas.List.Elements.{All-nil, All-cons, All-head, All-tail, All-set, All-append, All-map, All-replicate, All-weaker}
use Rattle.std.proofs.lemmas.List.Folds.{flat_map-map}
use Rattle.std.proofs.lemmas.Iterator.Adapters.{position_from-zero}
use Rattle.d64_effects.proofs.Occurrences.{occurs, occurs-append, occurs-set, joined}

-- rows with a new one in place of another, or as the first of eight more, of which the others
-- are blank
abbrev pub with_row : {A : Type 0} → List A → Option ℕ → A → A → List A
with_row rows (Some place) new blank = set rows place new
with_row rows None new blank = rows ++ (new ∷ replicate 7 blank)

-- a function of each row
pub map-with_row : {A B : Type 0} (f : A → B) (rows : List A) (place : Option ℕ) (new blank : A)
    → map f (with_row rows place new blank) ≡ with_row (map f rows) place (f new) (f blank)
map-with_row f rows (Some place) new blank = map-set f rows place new
map-with_row f rows None new blank = map-append f rows (new ∷ replicate 7 blank)

-- what holds of each row
pub All-with_row : {A : Type 0} (P : A → Type 0) (rows : List A) (place : Option ℕ) (new blank : A)
    → All P rows → P new → P blank → All P (with_row rows place new blank)
All-with_row P rows (Some place) new blank all here there = All-set P rows place new here all
All-with_row P rows None new blank all here there =
    All-append P rows (new ∷ replicate 7 blank) all (All-cons P new (replicate 7 blank) here (All-replicate P 7 blank there))

-- how often a number occurs in lists of which an empty one was replaced, or to which one was added
pub occurs-with_row : (q : ℕ) (rows : List (List ℕ)) (place : Option ℕ) (new : List ℕ)
    → IfSome place (λ slot. (slot < length rows) × (get_or rows slot [] ≡ []))
    → occurs q (joined (with_row rows place new [])) ≡ occurs q (joined rows) + occurs q new
occurs-with_row q rows (Some place) new vacant = occurs-set q rows place new vacant.0 vacant.1
occurs-with_row q rows None new vacant =
    let whole = ap (occurs q) (flat_map-append (λ (xs : List ℕ). xs) rows (new ∷ replicate 7 [])) in
    let parts = occurs-append q (joined rows) (joined (new ∷ replicate 7 [])) in
    let last = occurs-append q new [] in
    whole ∙ parts ∙ omega arith

-- functions that agree on each row
pub map-same : {A B : Type 0} (f g : A → B) (rows : List A) → All (λ row. f row ≡ g row) rows → map f rows ≡ map g rows
map-same f g [] all = refl
map-same f g (row ∷ rows) all =
    ap₂ (λ b bs. b ∷ bs) (All-head (λ r. f r ≡ g r) row rows all) (map-same f g rows (All-tail (λ r. f r ≡ g r) row rows all))

-- lists that rows give, one after another
pub joined-map : {A : Type 0} (f : A → List ℕ) (rows : List A) → joined (map f rows) ≡ flat_map f rows
joined-map f rows = flat_map-map (λ xs. xs) f rows

-- the first row that passes a test is at the place of the first row made of it that passes
first_mapped : {A B : Type 0} (f : A → B) (passes : B → Bool) (test : A → Bool) (n : ℕ) (rows : List A) → ((row : A) → passes (f row) ≡ test row)
    → position_from passes n (map f rows) ≡ position_from test n rows
first_mapped f passes test n [] agree = refl
first_mapped f passes test n (row ∷ rows) agree =
    ap₂ (λ (b : Bool) (p : Option ℕ). cond b (Some n) p) (agree row) (first_mapped f passes test (n + 1) rows agree)

pub position-map : {A B : Type 0} (f : A → B) (passes : B → Bool) (test : A → Bool) (rows : List A) → ((row : A) → passes (f row) ≡ test row)
    → position passes (map f rows) ≡ position test rows
position-map f passes test rows agree =
    position_from-zero passes (map f rows) ∙ first_mapped f passes test 0 rows agree ∙ sym (position_from-zero test rows)

-- a slot with a link of zeros before what follows the link
abbrev pub bare : List ℕ → List ℕ
bare part = 0 ∷ 0 ∷ part

-- a function that needs only what follows the link
pub map-bare : {A : Type 0} (f : List ℕ → A) (cells : List (List ℕ)) → ((cell other : List ℕ) → drop 2 cell ≡ drop 2 other → f cell ≡ f other)
    → map f cells ≡ map (λ part. f (bare part)) (map (drop 2) cells)
map-bare f [] alike = refl
map-bare f (cell ∷ cells) alike = ap₂ (λ b bs. b ∷ bs) (alike cell (bare (drop 2 cell)) refl) (map-bare f cells alike)

-- so it is of slots that are others with a new one, except for their links
pub map-slots : {A : Type 0} (f : List ℕ → A) (cells others : List (List ℕ)) (place : Option ℕ) (entry : List ℕ)
    → ((cell other : List ℕ) → drop 2 cell ≡ drop 2 other → f cell ≡ f other)
    → map (drop 2) others ≡ with_row (map (drop 2) cells) place entry (replicate 30 0)
    → map f others ≡ with_row (map f cells) place (f (bare entry)) (f (bare (replicate 30 0)))
map-slots f cells others place entry alike e =
    map-bare f others alike ∙ ap (map (λ part. f (bare part))) e
    ∙ map-with_row (λ part. f (bare part)) (map (drop 2) cells) place entry (replicate 30 0)
    ∙ ap (λ rows. with_row rows place (f (bare entry)) (f (bare (replicate 30 0)))) (sym (map-bare f cells alike))

-- what holds of each slot, whatever its link
from_parts : (P : List ℕ → Type 0) (cells : List (List ℕ)) → ((cell other : List ℕ) → drop 2 cell ≡ drop 2 other → P cell → P other)
    → All (λ part. P (bare part)) (map (drop 2) cells) → All P cells
from_parts P [] alike all = All-nil P
from_parts P (cell ∷ cells) alike all =
    let Q : List ℕ → Type 0 = λ part. P (bare part) in
    All-cons P cell cells (alike (bare (drop 2 cell)) cell refl (All-head Q (drop 2 cell) (map (drop 2) cells) all))
    (from_parts P cells alike (All-tail Q (drop 2 cell) (map (drop 2) cells) all))

to_parts : (P : List ℕ → Type 0) (cells : List (List ℕ)) → ((cell other : List ℕ) → drop 2 cell ≡ drop 2 other → P cell → P other)
    → All P cells → All (λ part. P (bare part)) (map (drop 2) cells)
to_parts P cells alike all =
    All-map (λ part. P (bare part)) (drop 2) cells (All-weaker P (λ cell. P (bare (drop 2 cell))) (λ cell h. alike cell (bare (drop 2 cell)) refl h) cells all)

pub All-slots : (P : List ℕ → Type 0) (cells others : List (List ℕ)) (place : Option ℕ) (entry : List ℕ)
    → ((cell other : List ℕ) → drop 2 cell ≡ drop 2 other → P cell → P other)
    → map (drop 2) others ≡ with_row (map (drop 2) cells) place entry (replicate 30 0)
    → All P cells → P (bare entry) → P (bare (replicate 30 0)) → All P others
All-slots P cells others place entry alike e all here there =
    let Q : List ℕ → Type 0 = λ part. P (bare part) in
    from_parts P others alike (subst (All Q) (sym e) (All-with_row Q (map (drop 2) cells) place entry (replicate 30 0) (to_parts P cells alike all) here there))

-- the first that passes a test, counted from one more
position_from-suc : {A : Type 0} (test : A → Bool) (n m : ℕ) (rows : List A) → m ≡ suc n
    → position_from test m rows ≡ option_map (λ (k : ℕ). suc k) (position_from test n rows)
position_from-suc test n m [] e = refl
position_from-suc test n m (row ∷ rows) e =
    ap₂ (λ (here later : Option ℕ). cond (test row) here later) (ap (λ (k : ℕ). Some k) e) (position_from-suc test (n + 1) (m + 1) rows (omega arith))
    ∙ moved (test row) (Some n) (position_from test (n + 1) rows)
  where
    moved : (b : Bool) (here later : Option ℕ)
        → cond b (option_map (λ (k : ℕ). suc k) here) (option_map (λ (k : ℕ). suc k) later) ≡ option_map (λ (k : ℕ). suc k) (cond b here later)
    moved true here later = refl
    moved false here later = refl

-- the first that passes a test among one row and others
pub position-cons : {A : Type 0} (test : A → Bool) (row : A) (rows : List A)
    → position test (row ∷ rows) ≡ cond (test row) (Some 0) (option_map (λ (k : ℕ). suc k) (position test rows))
position-cons test row rows =
    position_from-zero test (row ∷ rows)
    ∙ ap (λ (later : Option ℕ). cond (test row) (Some 0) later)
    (position_from-suc test 0 1 rows refl ∙ ap (option_map (λ (k : ℕ). suc k)) (sym (position_from-zero test rows)))
