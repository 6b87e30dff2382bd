-- the plan of a file's blocks, block by block
use Rattle.std.proofs.Common.{◌≡◌, ℕ, suc, ◌-◌, ◌<◌, List, [], ◌∷◌, ◌++◌, length, Option, Some, None, refl, sym, ap, ◌∙◌, arith}
use Rattle.std.specs.List.{find}
use Rattle.std.specs.Option.{option_map, option_and_then}
use Rattle.std.specs.Ordering.{nat_cmp}
use Rattle.std.specs.FinSet as set
use Rattle.std.proofs.lemmas.List.{append_assoc, append-nil, length-append}
use Rattle.std.proofs.lemmas.List.Sums.{fold-append}
use Rattle.d64_map.specs.Plan.{plan_after, plan}
use Rattle.d64_effects.specs.Write.{blocks_without}
use Rattle.d64_dos.specs.Planning.{order_after}

-- the plan of n blocks after the block that was taken last, or from the first block on
unfoldable pub plan_from : set.FinSet nat_cmp → Option ℕ → ℕ → Option (List ℕ)
plan_from free None count = plan free count
plan_from free (Some last) count = plan_after free last count

-- no block, and one block more
plan_from-zero : (free : set.FinSet nat_cmp) (last : Option ℕ) → plan_from free last 0 ≡ Some []
unfolding plan_from plan plan_after
plan_from-zero free None = refl
plan_from-zero free (Some last) = refl

plan_from-more : (free : set.FinSet nat_cmp) (last : Option ℕ) (count : ℕ)
    → plan_from free last (suc count)
    ≡ option_and_then (λ next. option_map (λ rest. next ∷ rest) (plan_from (set.remove free next) (Some next) count))
    (find (set.contains free) (order_after last))
unfolding plan_from plan plan_after
plan_from-more free None count = refl
plan_from-more free (Some last) count = refl

-- blocks that were taken, and then the plan of the others
abbrev pub then_planned : List ℕ → Option (List ℕ) → Option (List ℕ)
then_planned taken rest = option_map (λ more. taken ++ more) rest

then_planned-step : (taken : List ℕ) (next : ℕ) (rest : Option (List ℕ))
    → then_planned taken (option_map (λ more. next ∷ more) rest) ≡ then_planned (taken ++ next ∷ []) rest
then_planned-step taken next None = refl
then_planned-step taken next (Some more) = ap Some (sym (append_assoc taken (next ∷ []) more))

-- what a plan takes, as far as some blocks were taken
pub record PlanGoesOn (start free : set.FinSet nat_cmp) (count : ℕ) (taken : List ℕ) (last : Option ℕ) : Type 0 where
  pub planned : plan start count ≡ then_planned taken (plan_from free last (count - length taken))
  pub left : free ≡ blocks_without start taken

-- at first, no block
pub goes_on-start : (free : set.FinSet nat_cmp) (count : ℕ) → PlanGoesOn free free count [] None
unfolding plan_from
goes_on-start free count = record {
  planned = let n : count ≡ count - 0 = omega arith in sym (whole (plan free count)) ∙ ap (λ (k : ℕ). then_planned [] (plan_from free None k)) n;
  left = refl;
}
  where
    whole : (rest : Option (List ℕ)) → then_planned [] rest ≡ rest
    whole None = refl
    whole (Some more) = refl

-- the block that is found comes first
found-step : (free : set.FinSet nat_cmp) (last : Option ℕ) (count next : ℕ) (found : Option ℕ) → found ≡ Some next
    → option_and_then (λ block. option_map (λ rest. block ∷ rest) (plan_from (set.remove free block) (Some block) count)) found
    ≡ option_map (λ rest. next ∷ rest) (plan_from (set.remove free next) (Some next) count)
found-step free last count next found e =
    ap (option_and_then (λ block. option_map (λ rest. block ∷ rest) (plan_from (set.remove free block) (Some block) count))) e

-- one block more
pub goes_on-next : (start free : set.FinSet nat_cmp) (count : ℕ) (taken : List ℕ) (last : Option ℕ) (next : ℕ)
    → length taken < count
    → find (set.contains free) (order_after last) ≡ Some next
    → PlanGoesOn start free count taken last
    → PlanGoesOn start (set.remove free next) count (taken ++ next ∷ []) (Some next)
goes_on-next start free count taken last next more found so = record {
  planned =
      let left : ℕ = count - length (taken ++ next ∷ []) in
      let n : count - length taken ≡ suc left = let l = length-append taken (next ∷ []) in omega (arith, l) in
      so.planned ∙ ap (λ (k : ℕ). then_planned taken (plan_from free last k)) n
      ∙ ap (then_planned taken) (plan_from-more free last left ∙ found-step free last left next _ found)
      ∙ then_planned-step taken next (plan_from (set.remove free next) (Some next) left);
  left = ap (λ (s : set.FinSet nat_cmp). set.remove s next) so.left ∙ sym (fold-append set.remove start taken (next ∷ []));
}

-- no block is found if one more is needed
pub goes_on-none : (start free : set.FinSet nat_cmp) (count : ℕ) (taken : List ℕ) (last : Option ℕ)
    → length taken < count
    → find (set.contains free) (order_after last) ≡ None
    → PlanGoesOn start free count taken last
    → plan start count ≡ None
goes_on-none start free count taken last more none so =
    let n : count - length taken ≡ suc (count - length taken - 1) = omega arith in
    so.planned ∙ ap (λ (k : ℕ). then_planned taken (plan_from free last k)) n
    ∙ ap (then_planned taken) (plan_from-more free last (count - length taken - 1) ∙ ap (option_and_then _) none)

-- as many blocks as are needed
pub goes_on-end : (start free : set.FinSet nat_cmp) (count : ℕ) (taken : List ℕ) (last : Option ℕ)
    → length taken ≡ count
    → PlanGoesOn start free count taken last
    → plan start count ≡ Some taken
goes_on-end start free count taken last all so =
    let n : count - length taken ≡ 0 = omega arith in
    so.planned ∙ ap (λ (k : ℕ). then_planned taken (plan_from free last k)) n ∙ ap (then_planned taken) (plan_from-zero free last)
    ∙ ap Some (append-nil taken)
