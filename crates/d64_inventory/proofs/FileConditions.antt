-- The conditions that fail at the blocks of a slot's file.
use Rattle.std.proofs.Common.{◌≡◌, ◌≢◌, ℕ, zero, suc, ◌+◌, ◌<◌, ◌≤◌, ◌||◌, ◌&&◌, Bool, true, false, eqb, List, [], ◌∷◌, refl, sym, ap, ap₂, ◌∙◌, inl, inr, arith}
use Rattle.std.specs.List.{list_any, range_with_len}
use Rattle.std.specs.Ordering.{nat_cmp}
use Rattle.std.specs.FinSet as set
use Rattle.std.proofs.lemmas.Bool.{cases_Bool, eq-eqb, ne_eqb, eqb-true, eqb-false, and_right, or_from}
use Rattle.d64_image.specs.declared.block.TheConstants.{BLOCKS}
use Rattle.d64_map.specs.Map.{blocks, free_blocks}
use Rattle.d64_survey.specs.Owners.{is_shared}
use Rattle.d64_survey.specs.SlotBlocks.{slot_blocks}
use Rattle.d64_survey.specs.Flaws.{any_shared}
use Rattle.d64_inventory.specs.Rows.{is_of_file}
use Rattle.d64_inventory.proofs.AnyOf.{any_same, any_never}

and_none : (t : Bool) → (t && false) ≡ false
and_none t = and_right t false refl

-- no number from one on is a smaller one
none_later : (p : ℕ → Bool) (x a n : ℕ) → x < a → list_any (λ b. p b && eqb b x) (range_with_len a n) ≡ false
none_later p x a zero less = refl
none_later p x a (suc n) less =
    or_from (p a && eqb a x) (list_any (λ b. p b && eqb b x) (range_with_len (a + 1) n))
    (and_right (p a) (eqb a x) (ne_eqb a x (λ e. omega arith)))
    (none_later p x (a + 1) n (omega arith))

-- a number of a range passes a test if the test names it
one_in : (p : ℕ → Bool) (x a n : ℕ) → a ≤ x → x < a + n → list_any (λ b. p b && eqb b x) (range_with_len a n) ≡ p x
one_in p x a zero from below = absurd (omega arith)
one_in p x a (suc n) from below = elim (cases_Bool (eqb a x)) [
  | inl t ↦
      let same : a ≡ x = eqb-true a x t in
      ap₂ ◌||◌ (ap (λ (u : Bool). p a && u) t ∙ and_all (p a)) (none_later p x (a + 1) n (omega arith)) ∙ or_none (p a) ∙ ap p same
  | inr f ↦
      let other : a ≢ x = eqb-false a x f in
      let after : a + 1 ≤ x = omega arith in
      ap (λ (u : Bool). u || list_any (λ b. p b && eqb b x) (range_with_len (a + 1) n)) (and_right (p a) (eqb a x) f) ∙ one_in p x (a + 1) n after (omega arith)
]
  where
    and_all : (t : Bool) → (t && true) ≡ t
    and_all true = refl
    and_all false = refl

    or_none : (t : Bool) → (t || false) ≡ t
    or_none true = refl
    or_none false = refl

-- a test that is one of two
any_or : (f g : ℕ → Bool) (xs : List ℕ) → list_any (λ x. f x || g x) xs ≡ (list_any f xs || list_any g xs)
any_or f g [] = refl
any_or f g (x ∷ xs) = ap (λ (t : Bool). (f x || g x) || t) (any_or f g xs) ∙ turned (f x) (g x) (list_any f xs) (list_any g xs)
  where
    turned : (a b c d : Bool) → ((a || b) || (c || d)) ≡ ((a || c) || (b || d))
    turned true b c d = refl
    turned false true true d = refl
    turned false true false d = refl
    turned false false c d = refl

-- one of the first numbers passes a test and is in a list of such if one of the list
-- passes
any_in : (p : ℕ → Bool) (n : ℕ) (list : List ℕ) → ((b : ℕ) → list_any (eqb b) list ≡ true → b < n)
    → list_any (λ b. p b && list_any (eqb b) list) (range_with_len 0 n) ≡ list_any p list
any_in p n [] below = any_never (λ b. p b && false) (λ b. and_none (p b)) (range_with_len 0 n)
any_in p n (x ∷ xs) below =
    any_same (λ b. p b && (eqb b x || list_any (eqb b) xs)) (λ b. (p b && eqb b x) || (p b && list_any (eqb b) xs)) (λ b. spread (p b) (eqb b x) (list_any (eqb b) xs)) (range_with_len 0 n)
    ∙ any_or (λ b. p b && eqb b x) (λ b. p b && list_any (eqb b) xs) (range_with_len 0 n)
    ∙ ap₂ ◌||◌ (one_in p x 0 n (omega arith) (from_none (below x (ap (λ (t : Bool). t || list_any (eqb x) xs) (eq-eqb x x refl)))))
    (any_in p n xs (λ b there. below b (ap (λ (t : Bool). eqb b x || t) there ∙ or_all (eqb b x))))
  where
    from_none : x < n → x < 0 + n
    from_none within = omega arith

    spread : (a b c : Bool) → (a && (b || c)) ≡ ((a && b) || (a && c))
    spread true b c = refl
    spread false b c = refl

    or_all : (t : Bool) → (t || true) ≡ true
    or_all true = refl
    or_all false = refl

-- a block of the file has more than one owner
pub shared_is : (image : List (List ℕ)) (cell : List ℕ) → ((b : ℕ) → is_of_file image cell b ≡ true → b < BLOCKS)
    → list_any (λ block. is_shared image block && is_of_file image cell block) blocks ≡ any_shared image (slot_blocks image cell)
unfolding blocks
shared_is image cell below = any_in (is_shared image) BLOCKS (slot_blocks image cell) below

-- a block of the file is marked free
pub free_is : (image : List (List ℕ)) (cell : List ℕ) → ((b : ℕ) → is_of_file image cell b ≡ true → b < BLOCKS)
    → list_any (λ block. is_of_file image cell block && set.contains (free_blocks image) block) blocks ≡ list_any (set.contains (free_blocks image)) (slot_blocks image cell)
unfolding blocks
free_is image cell below =
    any_same (λ block. is_of_file image cell block && set.contains (free_blocks image) block) (λ block. set.contains (free_blocks image) block && is_of_file image cell block)
    (λ block. turned (is_of_file image cell block) (set.contains (free_blocks image) block)) (range_with_len 0 BLOCKS)
    ∙ any_in (set.contains (free_blocks image)) BLOCKS (slot_blocks image cell) below
  where
    turned : (a b : Bool) → (a && b) ≡ (b && a)
    turned true true = refl
    turned true false = refl
    turned false true = refl
    turned false false = refl
