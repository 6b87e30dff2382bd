-- Blocks that come twice, and the claims of blocks.
use Rattle.std.proofs.Common.{◌≡◌, ℕ, ◌||◌, Bool, true, false, eqb, List, [], ◌∷◌, ◌++◌, refl, sym, ap, ap₂, ◌∙◌}
use Rattle.std.specs.List.{list_any, IsDistinct, AllByRecursion}
use Rattle.std.specs.Ordering.{nat_cmp}
use Rattle.std.specs.Cmp.{nat_cmp_total}
use Rattle.std.specs.FinSet as set
use Rattle.std.specs.FinSet.{from_list_push, contains-from_list_nat, nat_cmp-IsAntisymmetric}
use Rattle.std.proofs.lemmas.Bool.{or_parts, or_from}
use Rattle.std.proofs.lemmas.List.Folds.{list_any-append}
use Rattle.d64_files.specs.Claims.{has_repeats, claims_of}
use Rattle.d64_files.specs.declared.claims.Claims.{Claims}
use Rattle.d64_files.proofs.Chains.{apart}

-- tests that are joined in another order
regrouped : (here next rest later : Bool) → ((here || (next || false)) || (rest || later)) ≡ ((here || rest) || (next || later))
regrouped true next rest later = refl
regrouped false true true later = refl
regrouped false true false later = refl
regrouped false false rest later = refl

-- whether a block comes twice among blocks and one more
has_repeats-push : (blocks : List ℕ) (block : ℕ) → has_repeats (blocks ++ block ∷ []) ≡ (has_repeats blocks || list_any (λ (b : ℕ). eqb b block) blocks)
has_repeats-push [] block = refl
has_repeats-push (b ∷ bs) block =
    ap₂ ◌||◌ (list_any-append (eqb b) bs (block ∷ [])) (has_repeats-push bs block)
    ∙ regrouped (list_any (eqb b) bs) (eqb b block) (has_repeats bs) (list_any (λ (c : ℕ). eqb c block) bs)

-- claims of these blocks, of which one may be crossed
abbrev pub made : set.FinSet nat_cmp → Bool → Claims
made blocks crossed = record { blocks = blocks; crossed = crossed }

-- no claims
pub none_claimed : (blocks : set.FinSet nat_cmp) → blocks ≡ set.empty → made blocks false ≡ claims_of []
unfolding claims_of
none_claimed blocks e = ap (λ (b : set.FinSet nat_cmp). made b false) e

-- the claims after one more block was claimed
pub one_claimed : (before : List ℕ) (block : ℕ) (old : Claims) (again crossed : Bool) (blocks : set.FinSet nat_cmp)
    → old ≡ claims_of before → again ≡ set.contains old.blocks block → crossed ≡ (old.crossed || again) → blocks ≡ set.insert old.blocks block
    → made blocks crossed ≡ claims_of (before ++ block ∷ [])
unfolding claims_of
one_claimed before block old again crossed blocks is known is_crossed is_blocks =
    let b : blocks ≡ set.from_list (before ++ block ∷ []) =
    is_blocks ∙ ap (λ (c : Claims). set.insert c.blocks block) is ∙ sym (from_list_push nat_cmp_total nat_cmp-IsAntisymmetric before block) in
    let a : again ≡ list_any (λ (c : ℕ). eqb c block) before = known ∙ ap (λ (c : Claims). set.contains c.blocks block) is ∙ contains-from_list_nat before block in
    let x : crossed ≡ has_repeats (before ++ block ∷ []) =
    is_crossed ∙ ap₂ ◌||◌ (ap (λ (c : Claims). c.crossed) is) a ∙ sym (has_repeats-push before block) in
    ap₂ made b x

-- a block that differs from each of others isn't among them
pub not_among : (block : ℕ) (others : List ℕ) → AllByRecursion (λ other. eqb block other ≡ false) others → list_any (eqb block) others ≡ false
not_among block [] h = refl
not_among block (other ∷ others) h = or_from (eqb block other) (list_any (eqb block) others) h.0 (not_among block others h.1)

-- if no block comes twice, the list has no repeat
pub no_repeats : (blocks : List ℕ) → IsDistinct eqb blocks → has_repeats blocks ≡ false
unfolding IsDistinct
no_repeats [] h = refl
no_repeats (block ∷ blocks) h = or_from (list_any (eqb block) blocks) (has_repeats blocks) (not_among block blocks h.0) (no_repeats blocks h.1)

-- and if the list has no repeat, no block comes twice
pub distinct_blocks : (blocks : List ℕ) → has_repeats blocks ≡ false → IsDistinct eqb blocks
unfolding IsDistinct
distinct_blocks [] h = tt
distinct_blocks (block ∷ blocks) h =
    let p = or_parts (list_any (eqb block) blocks) (has_repeats blocks) h in (apart block blocks p.0, distinct_blocks blocks p.1)

-- claims that are crossed have a block twice
pub crossed_claims : (claims : Claims) (blocks : List ℕ) → claims.crossed ≡ true → claims ≡ claims_of blocks → ¬ (IsDistinct eqb blocks)
unfolding claims_of
crossed_claims claims blocks crossed is distinct =
    let f : true ≡ false = sym crossed ∙ ap (λ (c : Claims). c.crossed) is ∙ no_repeats blocks distinct in cc

-- claims that aren't crossed have no repeat, and their set is that of the blocks
pub clear_claims : (claims : Claims) (blocks : List ℕ) → claims.crossed ≡ false → claims ≡ claims_of blocks → (claims.blocks ≡ set.from_list blocks) × IsDistinct eqb blocks
unfolding claims_of
clear_claims claims blocks clear is =
    (ap (λ (c : Claims). c.blocks) is, distinct_blocks blocks (sym (ap (λ (c : Claims). c.crossed) is) ∙ clear))

-- the set of the claims of blocks is that of the blocks
pub claimed_set : (claims : Claims) (blocks : List ℕ) → claims ≡ claims_of blocks → claims.blocks ≡ set.from_list blocks
unfolding claims_of
claimed_set claims blocks is = ap (λ (c : Claims). c.blocks) is
