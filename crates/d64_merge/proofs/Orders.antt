-- What becomes of a block, whatever the order of the dumps
use Rattle.std.proofs.Common.{◌≡◌, ℕ, ◌*◌, Bool, true, false, ◌&&◌, ◌||◌, if◌then◌else◌, cond, nat_eq, nat_lt, Option, Some, None, List, [], ◌∷◌, length, refl, sym, ap, ap₂, ◌∙◌, inl, inr}
use Rattle.std.specs.Prelude.{◌==◌}
use Rattle.std.specs.List.{All, find, list_any}
use Rattle.std.specs.Option.{option_map_or}
use Rattle.std.specs.List.Sorted.{IsPermutation}
use Rattle.std.proofs.lemmas.List.Sorted.{IsPermutation-sym, All-permutation, length_permutation, sum_by-IsPermutation}
use Rattle.std.proofs.lemmas.List.Elements.{All-head, All-tail, All-cons, All-nil}
use Rattle.std.proofs.lemmas.Bool.{eq-eqb}
use Rattle.std.proofs.lemmas.Bool.Decides.{eqb_tells}
use Rattle.d64_image.specs.Image.{sector_at}
use Rattle.d64_survey.specs.Dump.{DumpView}
use Rattle.d64_merge.specs.Copies.{is_good, agree, good_count, votes, wins}
use Rattle.d64_merge.specs.Choices.{are_equal, outcome}
use Rattle.d64_merge.specs.declared.outcome.Preference.{Preference}
use Rattle.d64_merge.specs.declared.outcome.BlockOutcome.{BlockOutcome}
use Rattle.d64_merge.specs.declared.outcome.BlockOutcome.TheVariants.{Same, Taken, Lost, Majority, First, Conflict}
use Rattle.d64_merge.proofs.Counts.{tight, same_count, find_all, find_none, found}
use Rattle.d64_merge.proofs.Agreements.{agreeing, agree_by}

-- numbers that a test finds equal are equal
pub is_number : (a b : ℕ) → nat_eq a b ≡ true → a ≡ b
is_number a b h = elim (eqb_tells a b) [ inl is ↦ is.1 | inr other ↦ let wrong : true ≡ false = sym h ∙ other.0 in absurd (cc) ]

-- if each element fails a test, the list has no element that passes it, and the converse
pub none_passes : {X : Type 0} (p : X → Bool) (xs : List X) → All (λ x. p x ≡ false) xs → list_any p xs ≡ false
none_passes p [] all = refl
none_passes p (x ∷ xs) all =
    ap₂ (λ (a b : Bool). a || b) (All-head (λ x. p x ≡ false) x xs all) (none_passes p xs (All-tail (λ x. p x ≡ false) x xs all))

pub passes_nowhere : {X : Type 0} (p : X → Bool) (xs : List X) → list_any p xs ≡ false → All (λ x. p x ≡ false) xs
passes_nowhere p [] h = All-nil (λ x. p x ≡ false)
passes_nowhere {X} p (x ∷ xs) h = go (passes_nowhere p xs) (p x) refl h
  where
    go : (list_any p xs ≡ false → All (λ x. p x ≡ false) xs) → (t : Bool) → p x ≡ t → (t || list_any p xs) ≡ false → All (λ x. p x ≡ false) (x ∷ xs)
    go later true t h = absurd (cc)
    go later false t h = All-cons (λ x. p x ≡ false) x xs t (later h)

-- two truth values that imply each other are equal
pub same_truth : (a b : Bool) → (a ≡ true → b ≡ true) → (b ≡ true → a ≡ true) → a ≡ b
same_truth true b h k = sym (h refl)
same_truth false true h k = k refl
same_truth false false h k = refl

same_falsehood : (a b : Bool) → (a ≡ false → b ≡ false) → (b ≡ false → a ≡ false) → a ≡ b
same_falsehood false b h k = sym (h refl)
same_falsehood true false h k = k refl
same_falsehood true true h k = refl

-- whether some element passes doesn't depend on the order
pub any_permuted : {X : Type 0} (p : X → Bool) (xs ys : List X) → IsPermutation xs ys → list_any p xs ≡ list_any p ys
any_permuted p xs ys perm =
    same_falsehood (list_any p xs) (list_any p ys)
    (λ none. none_passes p ys (All-permutation (λ x. p x ≡ false) xs ys perm (passes_nowhere p xs none)))
    (λ none. none_passes p xs (All-permutation (λ x. p x ≡ false) ys xs (IsPermutation-sym xs ys perm) (passes_nowhere p ys none)))

-- copies with equal bytes agree with the same ones
same_votes : (block : ℕ) (dumps : List DumpView) (one other : DumpView) → is_good block one ≡ true → is_good block other ≡ true
    → sector_at one.image block ≡ sector_at other.image block → votes block dumps one ≡ votes block dumps other
same_votes block dumps one other a b same =
    same_count (agree block one) (agree block other)
    (λ x. same_truth (agree block one x) (agree block other x)
    (λ h. let is = agreeing block one x h in agree_by block other x b is.1 (sym same ∙ is.2))
    (λ h. let is = agreeing block other x h in agree_by block one x a is.1 (same ∙ is.2)))
    dumps

-- if as many copies agree with a copy as are good, each good one agrees with it
pub each_equal : (block : ℕ) (dumps : List DumpView) (dump : DumpView) → nat_eq (votes block dumps dump) (good_count block dumps) ≡ true
    → All (λ x. is_good block x ≡ true → agree block dump x ≡ true) dumps
each_equal block dumps dump h =
    tight (agree block dump) (is_good block) (λ x t. (agreeing block dump x t).1) dumps (is_number _ _ h)

module _ (block : ℕ) (dumps others : List DumpView) (perm : IsPermutation dumps others) where
  pub same_good_count : good_count block others ≡ good_count block dumps
  same_good_count = sum_by-IsPermutation (λ x. cond (is_good block x) 1 0) dumps others perm

  pub same_votes_of : (dump : DumpView) → votes block others dump ≡ votes block dumps dump
  same_votes_of dump = sum_by-IsPermutation (λ x. cond (agree block dump x) 1 0) dumps others perm

  -- the good copies of the others are equal if those of the dumps are, by the first ones of both
  equal_by : (first other : Option DumpView) → find (is_good block) dumps ≡ first → find (is_good block) others ≡ other
      → option_map_or (λ dump. votes block dumps dump == good_count block dumps) first true ≡ true
      → option_map_or (λ dump. votes block others dump == good_count block others) other true ≡ true
  equal_by first None a b h = refl
  equal_by None (Some other) a b h =
      let none = All-permutation (λ x. is_good block x ≡ false) dumps others perm (find_none (is_good block) dumps a) in
      let is = find_all (is_good block) (λ x. is_good block x ≡ false) others none other b in
      let wrong : true ≡ false = sym is.1 ∙ is.0 in
      absurd (cc)
  equal_by (Some first) (Some other) a b h =
      let good = (find_all (is_good block) (λ x. is_good block x ≡ true → agree block first x ≡ true) dumps (each_equal block dumps first h) first a).1 in
      let each = All-permutation (λ x. is_good block x ≡ true → agree block first x ≡ true) dumps others perm (each_equal block dumps first h) in
      let is = find_all (is_good block) (λ x. is_good block x ≡ true → agree block first x ≡ true) others each other b in
      let equal = agreeing block first other (is.0 is.1) in
      let count : votes block others other ≡ good_count block others =
      same_votes block others other first is.1 good (sym equal.2) ∙ same_votes_of first ∙ is_number _ _ h ∙ sym same_good_count in
      eq-eqb _ _ count

  equal_too : are_equal block dumps ≡ true → are_equal block others ≡ true
  equal_too h =
      ap (λ (dump : Option DumpView). option_map_or (λ dump. votes block others dump == good_count block others) dump true) (found (is_good block) others)
      ∙ equal_by (find (is_good block) dumps) (find (is_good block) others) refl refl
      (sym (ap (λ (dump : Option DumpView). option_map_or (λ dump. votes block dumps dump == good_count block dumps) dump true) (found (is_good block) dumps)) ∙ h)

  -- the same dumps win
  pub same_wins : (dump : DumpView) → wins block others dump ≡ wins block dumps dump
  same_wins dump = ap₂ (λ (n m : ℕ). nat_lt n (2 * m)) same_good_count (same_votes_of dump)

pub same_equal : (block : ℕ) (dumps others : List DumpView) → IsPermutation dumps others → are_equal block dumps ≡ are_equal block others
same_equal block dumps others perm =
    same_truth (are_equal block dumps) (are_equal block others) (equal_too block dumps others perm) (equal_too block others dumps (IsPermutation-sym dumps others perm))

any_same : {X : Type 0} (p q : X → Bool) → ((x : X) → p x ≡ q x) → (xs : List X) → list_any p xs ≡ list_any q xs
any_same p q h [] = refl
any_same p q h (x ∷ xs) = ap₂ (λ (a b : Bool). a || b) (h x) (any_same p q h xs)

same_winner : (block : ℕ) (dumps others : List DumpView) → IsPermutation dumps others → list_any (wins block others) others ≡ list_any (wins block dumps) dumps
same_winner block dumps others perm =
    any_same (wins block others) (wins block dumps) (same_wins block dumps others perm) others ∙ sym (any_permuted (wins block dumps) dumps others perm)

-- what becomes of a block, by what is counted
abbrev pub outcome_by : Preference → Bool → Bool → Bool → Bool → BlockOutcome
outcome_by preference none equal all winner =
    if none then Lost
    else (if equal then (if all then Same else Taken)
    else (if preference.majority && winner then Majority else (if preference.first then First else Conflict)))

-- it doesn't depend on the order
pub same_outcome : (preference : Preference) (block : ℕ) (dumps others : List DumpView) → IsPermutation dumps others
    → outcome preference block others ≡ outcome preference block dumps
unfolding outcome
same_outcome preference block dumps others perm =
    let count = same_good_count block dumps others perm in
    ap₂ (λ (n : ℕ) (m : ℕ). outcome_by preference (n == 0) (are_equal block others) (n == m) (list_any (wins block others) others)) count (length_permutation dumps others perm)
    ∙ ap₂ (λ (e w : Bool). outcome_by preference (good_count block dumps == 0) e (good_count block dumps == length dumps) w) (sym (same_equal block dumps others perm)) (same_winner block dumps others perm)
