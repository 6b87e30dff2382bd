-- The merged blocks, whatever the order of the dumps
use Rattle.std.proofs.Common.{◌≡◌, ℕ, Bool, true, false, ◌&&◌, if◌then◌else◌, Some, None, List, [], ◌∷◌, length, map, refl, sym, ap, ap₂, ◌∙◌, subst}
use Rattle.std.specs.Prelude.{◌==◌}
use Rattle.std.specs.List.{All, list_any, range_with_len}
use Rattle.std.specs.List.Sorted.{IsPermutation}
use Rattle.std.proofs.lemmas.Bool.{eq-eqb}
use Rattle.std.proofs.lemmas.Simd.{map-map}
use Rattle.std.proofs.lemmas.Option.{same_Some}
use Rattle.std.proofs.lemmas.List.Elements.{All-nil, All-cons, All-head, All-tail, All-map}
use Rattle.d64_image.specs.Image.{count_of_tracks}
use Rattle.d64_survey.specs.Dump.{DumpView}
use Rattle.d64_merge.specs.Copies.{good_count, wins}
use Rattle.d64_merge.specs.Choices.{are_equal, dump_at, outcome, source, choice}
use Rattle.d64_merge.specs.Merged.{has_40_tracks, merged_block_count, choices, is_outcome, outcome_count, taken_bytes, merged_image, keeps_codes, dump_by, dump_of_choices}
use Rattle.d64_merge.specs.Laws.{OrderDoesNotMatter}
use Rattle.d64_merge.specs.declared.choice.Choice.{Choice}
use Rattle.d64_merge.specs.declared.outcome.Preference.{Preference}
use Rattle.d64_merge.specs.declared.outcome.BlockOutcome.{BlockOutcome}
use Rattle.d64_merge.specs.declared.outcome.BlockOutcome.TheVariants.{Same, Taken, Lost, Majority, First, Conflict}
use Rattle.d64_merge.proofs.Counts.{count_none, none_counted}
use Rattle.d64_merge.proofs.Orders.{is_number, any_permuted, same_outcome, outcome_by}
use Rattle.d64_merge.proofs.OrderedBlocks.{bytes_in, good_bytes, winner_bytes, not_none}

-- if good copies differ, the outcome is one of three
pub apart_is : (other : BlockOutcome) → (is_outcome Majority other ≡ false) → (is_outcome First other ≡ false) → (is_outcome Conflict other ≡ false)
    → (m f : Bool) → (if m then Majority else (if f then First else Conflict)) ≡ other → ⊥
apart_is other a b c true f is = let wrong : true ≡ false = ap (is_outcome Majority) is ∙ a in cc
apart_is other a b c false true is = let wrong : true ≡ false = ap (is_outcome First) is ∙ b in cc
apart_is other a b c false false is = let wrong : true ≡ false = ap (is_outcome Conflict) is ∙ c in cc

-- what an outcome says of the counts of copies
pub shows_same : (preference : Preference) (none equal all winner : Bool) → outcome_by preference none equal all winner ≡ Same → (none ≡ false) × (equal ≡ true) × (all ≡ true)
shows_same preference true equal all winner is = absurd (cc)
shows_same preference false true true winner is = (refl, refl, refl)
shows_same preference false true false winner is = absurd (cc)
shows_same preference false false all winner is = absurd (apart_is Same refl refl refl (preference.majority && winner) preference.first is)

pub shows_taken : (preference : Preference) (none equal all winner : Bool) → outcome_by preference none equal all winner ≡ Taken → (none ≡ false) × (equal ≡ true)
shows_taken preference true equal all winner is = absurd (cc)
shows_taken preference false true true winner is = absurd (cc)
shows_taken preference false true false winner is = (refl, refl)
shows_taken preference false false all winner is = absurd (apart_is Taken refl refl refl (preference.majority && winner) preference.first is)

winner_of : (m winner f : Bool) → (if m && winner then Majority else (if f then First else Conflict)) ≡ Majority → winner ≡ true
winner_of true true f is = refl
winner_of true false true is = absurd (cc)
winner_of true false false is = absurd (cc)
winner_of false winner true is = absurd (cc)
winner_of false winner false is = absurd (cc)

pub shows_majority : (preference : Preference) (none equal all winner : Bool) → outcome_by preference none equal all winner ≡ Majority → winner ≡ true
shows_majority preference true equal all winner is = absurd (cc)
shows_majority preference false true true winner is = absurd (cc)
shows_majority preference false true false winner is = absurd (cc)
shows_majority preference false false all winner is = winner_of preference.majority winner preference.first is

-- the outcome, by the counts of copies
pub outcome_is : (preference : Preference) (block : ℕ) (dumps : List DumpView)
    → outcome preference block dumps ≡ outcome_by preference (good_count block dumps == 0) (are_equal block dumps) (good_count block dumps == length dumps) (list_any (wins block dumps) dumps)
unfolding outcome
outcome_is preference block dumps = refl

module _ (preference : Preference) (dumps others : List DumpView) (perm : IsPermutation dumps others) where
  bytes_by : (block : ℕ) (became : BlockOutcome) → outcome preference block dumps ≡ became → is_outcome Lost became ≡ false → is_outcome First became ≡ false
      → bytes_in block (dump_at others (source became block others)) ≡ bytes_in block (dump_at dumps (source became block dumps))
  unfolding source
  bytes_by block Same is a b =
      let known = shows_same preference (good_count block dumps == 0) (are_equal block dumps) (good_count block dumps == length dumps) (list_any (wins block dumps) dumps) (sym (outcome_is preference block dumps) ∙ is) in
      good_bytes block dumps others perm known.1 (not_none _ known.0)
  bytes_by block Taken is a b =
      let known = shows_taken preference (good_count block dumps == 0) (are_equal block dumps) (good_count block dumps == length dumps) (list_any (wins block dumps) dumps) (sym (outcome_is preference block dumps) ∙ is) in
      good_bytes block dumps others perm known.1 (not_none _ known.0)
  bytes_by block Lost is a b = absurd (cc)
  bytes_by block First is a b = absurd (cc)
  bytes_by block Conflict is a b = refl
  bytes_by block Majority is a b =
      let known = shows_majority preference (good_count block dumps == 0) (are_equal block dumps) (good_count block dumps == length dumps) (list_any (wins block dumps) dumps) (sym (outcome_is preference block dumps) ∙ is) in
      let also = shows_majority preference (good_count block others == 0) (are_equal block others) (good_count block others == length others) (list_any (wins block others) others) (sym (outcome_is preference block others) ∙ same_outcome preference block dumps others perm ∙ is) in
      winner_bytes block dumps others perm known also

  taken_too : (block : ℕ) → is_outcome Lost (choice preference dumps block).outcome ≡ false → is_outcome First (choice preference dumps block).outcome ≡ false
      → taken_bytes others (choice preference others block) ≡ taken_bytes dumps (choice preference dumps block)
  unfolding choice
  taken_too block a b =
      ap (λ (o : BlockOutcome). bytes_in block (dump_at others (source o block others))) (same_outcome preference block dumps others perm)
      ∙ bytes_by block (outcome preference block dumps) refl a b

  same_became : (block : ℕ) → (choice preference others block).outcome ≡ (choice preference dumps block).outcome
  unfolding choice
  same_became block = same_outcome preference block dumps others perm

  same_size : merged_block_count others ≡ merged_block_count dumps
  same_size = ap (λ (b : Bool). count_of_tracks (if b then 40 else 35)) (sym (any_permuted has_40_tracks dumps others perm))

-- a property of a list's images
unmapped : {X Y : Type 0} (P : Y → Type 0) (f : X → Y) (xs : List X) → All P (map f xs) → All (λ x. P (f x)) xs
unmapped P f [] all = All-nil (λ x. P (f x))
unmapped P f (x ∷ xs) all = All-cons (λ x. P (f x)) x xs (All-head P (f x) (map f xs) all) (unmapped P f xs (All-tail P (f x) (map f xs) all))

pub same_map : {X Y : Type 0} (f g : X → Y) (xs : List X) → All (λ x. f x ≡ g x) xs → map f xs ≡ map g xs
same_map f g [] all = refl
same_map f g (x ∷ xs) all = ap₂ (λ a b. a ∷ b) (All-head (λ x. f x ≡ g x) x xs all) (same_map f g xs (All-tail (λ x. f x ≡ g x) x xs all))

-- no block has this outcome, block by block
abbrev IsNever : BlockOutcome → Preference → List DumpView → Type 0
IsNever became preference dumps = All (λ block. is_outcome became (choice preference dumps block).outcome ≡ false) (range_with_len 0 (merged_block_count dumps))

pub never : (became : BlockOutcome) (preference : Preference) (dumps : List DumpView) → outcome_count became (choices preference dumps) ≡ 0 → IsNever became preference dumps
unfolding choices
never became preference dumps none =
    unmapped (λ (c : Choice). is_outcome became c.outcome ≡ false) (choice preference dumps) (range_with_len 0 (merged_block_count dumps))
    (none_counted (λ (c : Choice). is_outcome became c.outcome) (map (choice preference dumps) (range_with_len 0 (merged_block_count dumps))) none)

pub counted_never : (became : BlockOutcome) (preference : Preference) (dumps : List DumpView) → IsNever became preference dumps → outcome_count became (choices preference dumps) ≡ 0
unfolding choices
counted_never became preference dumps all =
    count_none (λ (c : Choice). is_outcome became c.outcome) (map (choice preference dumps) (range_with_len 0 (merged_block_count dumps)))
    (All-map (λ (c : Choice). is_outcome became c.outcome ≡ false) (choice preference dumps) (range_with_len 0 (merged_block_count dumps)) all)

pub made_shows : (b : Bool) (dump made : DumpView) → (if b then Some dump else None) ≡ Some made → (b ≡ true) × (dump ≡ made)
made_shows true dump made is = (refl, same_Some dump made is)
made_shows false dump made is = absurd (cc)

-- the images are equal
images : (preference : Preference) (dumps others : List DumpView) → IsPermutation dumps others → IsNever Lost preference dumps → IsNever First preference dumps
    → merged_image others (choices preference others) ≡ merged_image dumps (choices preference dumps)
unfolding merged_image choices
images preference dumps others perm lost first =
    let blocks = range_with_len 0 (merged_block_count dumps) in
    ap (λ (n : ℕ). map (taken_bytes others) (map (choice preference others) (range_with_len 0 n))) (same_size preference dumps others perm)
    ∙ map-map (taken_bytes others) (choice preference others) blocks
    ∙ same_map (λ block. taken_bytes others (choice preference others block)) (λ block. taken_bytes dumps (choice preference dumps block)) blocks
    (λ k d h. taken_too preference dumps others perm _ (lost k d h) (first k d h))
    ∙ sym (map-map (taken_bytes dumps) (choice preference dumps) blocks)

pub order_law : OrderDoesNotMatter
unfolding dump_of_choices dump_by
order_law preference plain dumps others made perm is lost first =
    let known = made_shows (outcome_count Conflict (choices preference dumps) == 0) (dump_by (keeps_codes plain dumps) dumps (choices preference dumps)) made is in
    let conflict = never Conflict preference dumps (is_number _ _ known.0) in
    let size = same_size preference dumps others perm in
    let too : IsNever Conflict preference others =
    subst (λ (n : ℕ). All (λ block. is_outcome Conflict (choice preference others block).outcome ≡ false) (range_with_len 0 n)) (sym size)
    (λ k d h. ap (is_outcome Conflict) (same_became preference dumps others perm _) ∙ conflict k d h) in
    let other : DumpView = dump_by (keeps_codes plain others) others (choices preference others) in
    let no_conflict : outcome_count Conflict (choices preference others) ≡ 0 = counted_never Conflict preference others too in (
      other,
      ap (λ (b : Bool). if b then Some other else None) (eq-eqb _ _ no_conflict),
      images preference dumps others perm (never Lost preference dumps lost) (never First preference dumps first) ∙ ap (λ (d : DumpView). d.image) known.1,
    )
