-- The blocks of a slot's file, as a set of them.
use Rattle.std.proofs.Common.{◌≡◌, ℕ, ◌+◌, ◌<◌, ◌||◌, Bool, true, false, cond, eqb, List, [], ◌∷◌, ◌++◌, length, take, get_or, Option, refl, sym, ap, ap₂, ◌∙◌}
use Rattle.std.specs.Prelude.{count_by, filter}
use Rattle.std.specs.List.{list_any}
use Rattle.std.specs.Ordering.{nat_cmp}
use Rattle.std.specs.Cmp.{nat_cmp_total, unsigned_tied}
use Rattle.std.specs.FinSet as set
use Rattle.std.specs.FinSet.{contains-insert, contains-empty}
use Rattle.std.proofs.lemmas.List.{take_more}
use Rattle.std.proofs.lemmas.List.Sums.{length-filter}
use Rattle.std.proofs.lemmas.List.Folds.{list_any-append, list_any_more}
use Rattle.d64_survey.specs.Owners.{pair_of, blocks_from}
use Rattle.d64_survey.specs.SlotBlocks.{slot_blocks}
use Rattle.d64_survey.specs.declared.owner.Part.TheVariants.{Data, Side}
use Rattle.d64_inventory.specs.Rows.{is_of_file}

-- one more block is a member
pub one_more : (before old new : set.FinSet nat_cmp) (blocks : List ℕ) (k block d : ℕ) → new ≡ set.insert old block
    → ((q : ℕ) → set.contains old q ≡ (set.contains before q || list_any (eqb q) (take k blocks))) → k < length blocks → block ≡ get_or blocks k d
    → (q : ℕ) → set.contains new q ≡ (set.contains before q || list_any (eqb q) (take (k + 1) blocks))
one_more before old new blocks k block d e members within is q =
    ap (λ (s : set.FinSet nat_cmp). set.contains s q) e ∙ contains-insert nat_cmp_total old block q ∙ ap₂ ◌||◌ (unsigned_tied q block) (members q)
    ∙ turned (eqb q block) (set.contains before q) (list_any (eqb q) (take k blocks))
    ∙ sym (ap (λ (t : Bool). set.contains before q || t)
    (ap (list_any (eqb q)) (take_more blocks k d within ∙ ap (λ (b : ℕ). take k blocks ++ b ∷ []) (sym is)) ∙ list_any-append (eqb q) (take k blocks) (block ∷ [])))
  where
    turned : (a b c : Bool) → (a || (b || c)) ≡ (b || (c || (a || false)))
    turned true true c = refl
    turned true false true = refl
    turned true false false = refl
    turned false true c = refl
    turned false false true = refl
    turned false false false = refl

-- one more block may pass a test
pub flag_more : (f : ℕ → Bool) (blocks : List ℕ) (k block d : ℕ) (before old new : Bool) → k < length blocks → block ≡ get_or blocks k d
    → old ≡ (before || list_any f (take k blocks)) → new ≡ (old || f block) → new ≡ (before || list_any f (take (k + 1) blocks))
flag_more f blocks k block d before old new within is known e =
    e ∙ ap₂ ◌||◌ known (ap f is) ∙ joined before (list_any f (take k blocks)) (f (get_or blocks k d)) ∙ sym (ap (λ (t : Bool). before || t) (list_any_more f blocks k d within))
  where
    joined : (a b c : Bool) → ((a || b) || c) ≡ (a || (b || c))
    joined true b c = refl
    joined false b c = refl

-- a block of either part passes a test
pub either_part : (f : ℕ → Bool) (image : List (List ℕ)) (cell : List ℕ) (data_pair side_pair : Option (ℕ × ℕ)) (first all : Bool)
    → data_pair ≡ pair_of Data cell → side_pair ≡ pair_of Side cell → first ≡ list_any f (blocks_from image data_pair)
    → all ≡ (first || list_any f (blocks_from image side_pair)) → all ≡ list_any f (slot_blocks image cell)
either_part f image cell data_pair side_pair first all d s in_data in_side =
    in_side
    ∙ ap₂ ◌||◌ (in_data ∙ ap (λ (p : Option (ℕ × ℕ)). list_any f (blocks_from image p)) d) (ap (λ (p : Option (ℕ × ℕ)). list_any f (blocks_from image p)) s)
    ∙ sym (list_any-append f (blocks_from image (pair_of Data cell)) (blocks_from image (pair_of Side cell)))

-- the blocks of both parts are those of the file
pub both_parts : (image : List (List ℕ)) (cell : List ℕ) (none first all : set.FinSet nat_cmp) (data_pair side_pair : Option (ℕ × ℕ)) → none ≡ set.empty
    → data_pair ≡ pair_of Data cell → side_pair ≡ pair_of Side cell
    → ((q : ℕ) → set.contains first q ≡ (set.contains none q || list_any (eqb q) (blocks_from image data_pair)))
    → ((q : ℕ) → set.contains all q ≡ (set.contains first q || list_any (eqb q) (blocks_from image side_pair))) → (q : ℕ) → set.contains all q ≡ is_of_file image cell q
both_parts image cell none first all data_pair side_pair empty d s in_data in_side q =
    in_side q
    ∙ ap₂ ◌||◌ (in_data q ∙ ap₂ ◌||◌ (ap (λ (m : set.FinSet nat_cmp). set.contains m q) empty ∙ contains-empty nat_cmp q)
    (ap (λ (p : Option (ℕ × ℕ)). list_any (eqb q) (blocks_from image p)) d)) (ap (λ (p : Option (ℕ × ℕ)). list_any (eqb q) (blocks_from image p)) s)
    ∙ sym (list_any-append (eqb q) (blocks_from image (pair_of Data cell)) (blocks_from image (pair_of Side cell)))

-- two tests that agree
filtered_same : {X : Type 0} (p q : X → Bool) → ((x : X) → p x ≡ q x) → (xs : List X) → filter p xs ≡ filter q xs
filtered_same p q same [] = refl
filtered_same p q same (x ∷ xs) = by_test (filtered_same p q same xs)
  where
    by_test : filter p xs ≡ filter q xs → cond (p x) (x ∷ filter p xs) (filter p xs) ≡ cond (q x) (x ∷ filter q xs) (filter q xs)
    by_test e = ap₂ (λ t l. cond t (x ∷ l) l) (same x) e

-- count alike
pub count_same : {X : Type 0} (p q : X → Bool) → ((x : X) → p x ≡ q x) → (xs : List X) → count_by p xs ≡ count_by q xs
count_same p q same xs = sym (length-filter p xs) ∙ ap length (filtered_same p q same xs) ∙ length-filter q xs
