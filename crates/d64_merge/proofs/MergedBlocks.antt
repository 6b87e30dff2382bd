-- The blocks of a merged dump are those of dumps
use Rattle.std.proofs.Common.{◌≡◌, ◌≢◌, ℕ, ◌<◌, ◌≤◌, Bool, true, false, ◌&&◌, if◌then◌else◌, not, nat_eq, nat_lt, cond, ◌⊎◌, Option, Some, None, List, [], ◌∷◌, length, refl, sym, ap, ◌∙◌, subst, arith, inl, inr}
use Rattle.std.specs.Prelude.{◌==◌}
use Rattle.std.specs.List.{All, Contains, count_by, find, list_any, position, position_or_len, range_with_len, slice_get, slice_index_or}
use Rattle.std.specs.Option.{option_map_or, option_or}
use Rattle.std.specs.Cmp.Lexicographic.{pointwise}
use Rattle.std.proofs.lemmas.Bool.{cases_lt, lt-ltb, le-ltb, true≢false}
use Rattle.std.proofs.lemmas.List.Folds.{find_at}
use Rattle.std.proofs.lemmas.List.Sums.{passes_at_first, sum_by-cons}
use Rattle.std.proofs.lemmas.Option.{slice_get_within, slice_get_past}
use Rattle.std.proofs.lemmas.List.FromFn.{length-map-range_with_len, get_or-map-range_with_len, length-range_with_len, get_or-range_with_len}
use Rattle.std.proofs.lemmas.Simd.{map-map}
use Rattle.std.proofs.lemmas.List.Elements.{All-contains_itself, All-head}
use Rattle.d64_image.specs.Image.{sector_at, tracks_of, count_of_tracks}
use Rattle.d64_survey.specs.Dump.{DumpView, IsDump, HasCodes, code_bytes, is_read_error}
use Rattle.d64_survey.specs.ReadErrors.{code_of}
use Rattle.d64_merge.specs.Copies.{has_block, known_code, is_good, has_bad_checksum, agree, good_count, votes, wins}
use Rattle.d64_merge.specs.Choices.{are_equal, dump_at, has_codes, outcome, source, choice, code_source, code_in, merged_code}
use Rattle.d64_merge.specs.Merged.{has_40_tracks, merged_block_count, choices, is_outcome, outcome_count, taken_bytes, merged_image, merged_codes, keeps_codes, dump_by, dump_of_choices, merged}
use Rattle.d64_merge.specs.Laws.{IsIn, EachBlockIsADumps, ErrorsOnlyWhereAllAreLost}
use Rattle.d64_merge.specs.declared.choice.Choice.{Choice}
use Rattle.d64_merge.specs.declared.outcome.Preference.{Preference}
use Rattle.d64_merge.specs.declared.outcome.BlockOutcome.{BlockOutcome}
use Rattle.d64_merge.specs.declared.outcome.BlockOutcome.TheVariants.{Same, Taken, Lost, Majority, First, Conflict}
use Rattle.d64_merge.proofs.Counts.{count_none, none_counted, find_all, find_none, found, tight}
use Rattle.d64_merge.proofs.Agreements.{both_true}
use Rattle.d64_merge.proofs.Orders.{is_number, none_passes, passes_nowhere, outcome_by}
use Rattle.d64_merge.proofs.OrderedBlocks.{bytes_in, not_none, below}
use Rattle.d64_merge.proofs.MergedOrders.{made_shows, outcome_is, apart_is, shows_same, shows_taken, shows_majority, never}

-- ---- the block of a merged dump

pub image_size : (preference : Preference) (dumps : List DumpView) → length (merged_image dumps (choices preference dumps)) ≡ merged_block_count dumps
unfolding merged_image choices
image_size preference dumps =
    ap length (map-map (taken_bytes dumps) (choice preference dumps) (range_with_len 0 (merged_block_count dumps)))
    ∙ length-map-range_with_len (λ block. taken_bytes dumps (choice preference dumps block)) 0 (merged_block_count dumps)

pub sector_is : (preference : Preference) (dumps : List DumpView) (block : ℕ) → block < merged_block_count dumps
    → sector_at (merged_image dumps (choices preference dumps)) block ≡ bytes_in block (dump_at dumps (source (outcome preference block dumps) block dumps))
unfolding merged_image choices choice
sector_is preference dumps block within =
    ap (λ (image : List (List ℕ)). sector_at image block) (map-map (taken_bytes dumps) (choice preference dumps) (range_with_len 0 (merged_block_count dumps)))
    ∙ get_or-map-range_with_len (λ block. taken_bytes dumps (choice preference dumps block)) 0 (merged_block_count dumps) block block [] within (omega arith)

-- ---- the dump that is taken

-- one of the dumps passes a test, and then the first that does is taken
first_in : (block : ℕ) (dumps : List DumpView) (p : DumpView → Bool) → All (λ x. p x ≡ true → has_block block x ≡ true) dumps → list_any p dumps ≡ true
    → IsIn dumps block (bytes_in block (find p dumps))
first_in block dumps p each some = go (find p dumps) refl
  where
    go : (first : Option DumpView) → find p dumps ≡ first → IsIn dumps block (bytes_in block first)
    go None is = let wrong : true ≡ false = sym some ∙ none_passes p dumps (find_none p dumps is) in absurd (cc)
    go (Some dump) is =
        let known = find_all p (λ x. Contains dumps x × (p x ≡ true → has_block block x ≡ true)) dumps (λ k d h. (All-contains_itself dumps k d h, each k d h)) dump is in
        (dump, known.0.0, known.0.1 known.1, refl)

placed_in : (block : ℕ) (dumps : List DumpView) (p : DumpView → Bool) → All (λ x. p x ≡ true → has_block block x ≡ true) dumps → list_any p dumps ≡ true
    → IsIn dumps block (bytes_in block (dump_at dumps (position p dumps)))
placed_in block dumps p each some =
    subst (λ (d : Option DumpView). IsIn dumps block (bytes_in block d)) (sym (found p dumps)) (first_in block dumps p each some)

good_is_there : (block : ℕ) (dump : DumpView) → is_good block dump ≡ true → has_block block dump ≡ true
good_is_there block dump h = (both_true (has_block block dump) _ h).0

-- if the number of good copies is not 0, some dump has a good copy
some_good : (block : ℕ) (dumps : List DumpView) → good_count block dumps ≢ 0 → list_any (is_good block) dumps ≡ true
some_good block dumps some = go (list_any (is_good block) dumps) refl
  where
    go : (t : Bool) → list_any (is_good block) dumps ≡ t → list_any (is_good block) dumps ≡ true
    go true is = is
    go false is = absurd (some (count_none (is_good block) dumps (passes_nowhere (is_good block) dumps is)))

-- a copy that wins is good: otherwise no copy agrees with it
wins_good : (block : ℕ) (dumps : List DumpView) (dump : DumpView) → wins block dumps dump ≡ true → is_good block dump ≡ true
wins_good block dumps dump h = go (is_good block dump) refl
  where
    go : (t : Bool) → is_good block dump ≡ t → is_good block dump ≡ true
    go true is = is
    go false is =
        let none : votes block dumps dump ≡ 0 = count_none (agree block dump) dumps (λ k d h. ap (λ (b : Bool). b && (is_good block (slice_index_or dumps k d) && pointwise nat_eq (sector_at dump.image block) (sector_at (slice_index_or dumps k d).image block))) is) in
        let more = below _ _ h in
        absurd (omega (arith, none, more))

-- the place of the first dump that passes, or that no dump does
pub place_cases : (p : DumpView → Bool) (dumps : List DumpView)
    → ((i : ℕ) × (position p dumps ≡ Some i) × (list_any p dumps ≡ true)) ⊎ ((position p dumps ≡ None) × (list_any p dumps ≡ false))
place_cases p dumps = elim (cases_lt (position_or_len p dumps) (length dumps)) [
  | inl less ↦ inl (position_or_len p dumps, ap (λ (b : Bool). cond b (Some (position_or_len p dumps)) None) (lt-ltb _ _ less), go less (list_any p dumps) refl)
  | inr more ↦ inr (
    ap (λ (b : Bool). cond b (Some (position_or_len p dumps)) None) (le-ltb _ _ more),
    none_passes p dumps (find_none p dumps (find_at p dumps ∙ slice_get_past dumps (position_or_len p dumps) more)),
  )
]
  where
    go : position_or_len p dumps < length dumps → (t : Bool) → list_any p dumps ≡ t → list_any p dumps ≡ true
    go less true is = is
    go less false is = absurd (position_passes (passes_nowhere p dumps is) less)
      where
        position_passes : All (λ x. p x ≡ false) dumps → position_or_len p dumps < length dumps → ⊥
        position_passes all less =
            let d = slice_index_or dumps 0 (record { image = []; codes = None }) in
            let wrong : true ≡ false = sym (passes_at_first p dumps d less) ∙ all (position_or_len p dumps) d less in
            cc

bad_is_there : (block : ℕ) (dump : DumpView) → HasCodes dump.image dump.codes → has_bad_checksum block dump ≡ true → has_block block dump ≡ true
bad_is_there block dump has h = go dump.codes has (known_code block dump) refl h
  where
    go : (codes : Option (List ℕ)) → HasCodes dump.image codes → (code : Option ℕ) → slice_get (code_bytes codes) block ≡ code → option_map_or (λ code. code == 5) code false ≡ true
        → has_block block dump ≡ true
    go codes has None is h = absurd (cc)
    go None has (Some code) is h = absurd (cc)
    go (Some codes) has (Some code) is h = let within = slice_get_within codes block code is in lt-ltb _ _ (omega (arith, within, has))

not_below : (a b : ℕ) → nat_lt a b ≡ false → b ≤ a
not_below a b h = elim (cases_lt a b) [ inl less ↦ let wrong : true ≡ false = sym (lt-ltb a b less) ∙ h in absurd (cc) | inr more ↦ more ]

small_has_35 : (n block : ℕ) → ((n ≡ 683) ⊎ (n ≡ 768)) → n ≤ block → block < 768 → (tracks_of n == 40) ≡ false
small_has_35 n block (inl is) h k = ap (λ (m : ℕ). tracks_of m == 40) is
small_has_35 n block (inr is) h k = absurd (omega (arith, is, h, k))

size_by : (is_larger : Bool) → ℕ
size_by is_larger = count_of_tracks (if is_larger then 40 else 35)

at_least : (n : ℕ) → ((n ≡ 683) ⊎ (n ≡ 768)) → 683 ≤ n
at_least n (inl is) = omega (arith, is)
at_least n (inr is) = omega (arith, is)

-- one of the dumps has each block of the merged one
lacks_none : (block : ℕ) (dumps : List DumpView) → dumps ≢ [] → All IsDump dumps → All (λ x. has_block block x ≡ false) dumps → (larger : Bool) → list_any has_40_tracks dumps ≡ larger
    → block < count_of_tracks (if larger then 40 else 35) → ⊥
lacks_none block [] some are none larger is within = some refl
lacks_none block (dump ∷ dumps) some are none false is within =
    let size = at_least (length dump.image) (All-head IsDump dump dumps are).0.0 in
    let short = not_below block (length dump.image) (All-head (λ x. has_block block x ≡ false) dump dumps none) in
    omega (arith, within, size, short)
lacks_none block (dump ∷ dumps) some are none true is within =
    let all : List DumpView = dump ∷ dumps in
    let wrong : true ≡ false = sym is ∙ none_passes has_40_tracks all (λ k d h. small_has_35 (length (slice_index_or all k d).image) block (are k d h).0.0 (not_below block _ (none k d h)) within) in
    true≢false wrong

any_there : (block : ℕ) (dumps : List DumpView) → dumps ≢ [] → All IsDump dumps → block < merged_block_count dumps → list_any (has_block block) dumps ≡ true
any_there block dumps some are within = go (list_any (has_block block) dumps) refl
  where
    go : (t : Bool) → list_any (has_block block) dumps ≡ t → list_any (has_block block) dumps ≡ true
    go true is = is
    go false is = absurd (lacks_none block dumps some are (passes_nowhere (has_block block) dumps is) (list_any has_40_tracks dumps) refl within)

shows_first : (preference : Preference) (none equal all winner : Bool) → outcome_by preference none equal all winner ≡ First → none ≡ false
shows_first preference true equal all winner is = absurd (cc)
shows_first preference false equal all winner is = refl

shows_lost : (preference : Preference) (none equal all winner : Bool) → outcome_by preference none equal all winner ≡ Lost → none ≡ true
shows_lost preference true equal all winner is = refl
shows_lost preference false true true winner is = absurd (cc)
shows_lost preference false true false winner is = absurd (cc)
shows_lost preference false false all winner is = absurd (apart_is Lost refl refl refl (preference.majority && winner) preference.first is)

module _ (preference : Preference) (dumps : List DumpView) (block : ℕ) where
  counts : (became : BlockOutcome) → outcome preference block dumps ≡ became
      → outcome_by preference (good_count block dumps == 0) (are_equal block dumps) (good_count block dumps == length dumps) (list_any (wins block dumps) dumps) ≡ became
  counts became is = sym (outcome_is preference block dumps) ∙ is

  good_placed : (good_count block dumps == 0) ≡ false → IsIn dumps block (bytes_in block (dump_at dumps (position (is_good block) dumps)))
  good_placed none = placed_in block dumps (is_good block) (λ k d h. good_is_there block _) (some_good block dumps (not_none _ none))

  lost_placed : dumps ≢ [] → All IsDump dumps → block < merged_block_count dumps
      → IsIn dumps block (bytes_in block (dump_at dumps (option_or (position (has_bad_checksum block) dumps) (position (has_block block) dumps))))
  lost_placed some are within = elim (place_cases (has_bad_checksum block) dumps) [
    | inl found_bad ↦
        let same : option_or (position (has_bad_checksum block) dumps) (position (has_block block) dumps) ≡ position (has_bad_checksum block) dumps =
        ap (λ (o : Option ℕ). option_or o (position (has_block block) dumps)) found_bad.1 ∙ sym found_bad.1 in
        subst (λ (o : Option ℕ). IsIn dumps block (bytes_in block (dump_at dumps o))) (sym same)
        (placed_in block dumps (has_bad_checksum block) (λ k d h. bad_is_there block _ (are k d h).1) found_bad.2)
    | inr none ↦
        let same : option_or (position (has_bad_checksum block) dumps) (position (has_block block) dumps) ≡ position (has_block block) dumps =
        ap (λ (o : Option ℕ). option_or o (position (has_block block) dumps)) none.0 in
        subst (λ (o : Option ℕ). IsIn dumps block (bytes_in block (dump_at dumps o))) (sym same)
        (placed_in block dumps (has_block block) (λ k d h is. is) (any_there block dumps some are within))
  ]

  in_by : dumps ≢ [] → All IsDump dumps → block < merged_block_count dumps → (became : BlockOutcome) → outcome preference block dumps ≡ became → is_outcome Conflict became ≡ false
      → IsIn dumps block (bytes_in block (dump_at dumps (source became block dumps)))
  unfolding source
  in_by some are within Same is h = good_placed (shows_same preference (good_count block dumps == 0) (are_equal block dumps) (good_count block dumps == length dumps) (list_any (wins block dumps) dumps) (counts Same is)).0
  in_by some are within Taken is h = good_placed (shows_taken preference (good_count block dumps == 0) (are_equal block dumps) (good_count block dumps == length dumps) (list_any (wins block dumps) dumps) (counts Taken is)).0
  in_by some are within First is h = good_placed (shows_first preference (good_count block dumps == 0) (are_equal block dumps) (good_count block dumps == length dumps) (list_any (wins block dumps) dumps) (counts First is))
  in_by some are within Lost is h = lost_placed some are within
  in_by some are within Conflict is h = absurd (cc)
  in_by some are within Majority is h =
      placed_in block dumps (wins block dumps) (λ k d h w. good_is_there block _ (wins_good block dumps _ w))
      (shows_majority preference (good_count block dumps == 0) (are_equal block dumps) (good_count block dumps == length dumps) (list_any (wins block dumps) dumps) (counts Majority is))

-- no block of a merged dump is in conflict
no_conflict : (preference : Preference) (plain : Bool) (dumps : List DumpView) (made : DumpView) → merged preference plain dumps ≡ Some made
    → (outcome_count Conflict (choices preference dumps) ≡ 0) × (dump_by (keeps_codes plain dumps) dumps (choices preference dumps) ≡ made)
unfolding dump_of_choices
no_conflict preference plain dumps made is =
    let known = made_shows (outcome_count Conflict (choices preference dumps) == 0) (dump_by (keeps_codes plain dumps) dumps (choices preference dumps)) made is in
    (is_number _ _ known.0, known.1)

pub became_of : (preference : Preference) (dumps : List DumpView) (block : ℕ) → (choice preference dumps block).outcome ≡ outcome preference block dumps
unfolding choice
became_of preference dumps block = refl

never_here : (preference : Preference) (dumps : List DumpView) (block : ℕ) → outcome_count Conflict (choices preference dumps) ≡ 0 → block < merged_block_count dumps
    → is_outcome Conflict (outcome preference block dumps) ≡ false
never_here preference dumps block none within =
    let n = merged_block_count dumps in
    let e = length-range_with_len 0 n in
    let here = never Conflict preference dumps none block 0 (omega (arith, e, within)) in
    ap (is_outcome Conflict) (sym (became_of preference dumps block))
    ∙ ap (λ (b : ℕ). is_outcome Conflict (choice preference dumps b).outcome) (sym (get_or-range_with_len 0 n block 0 within ∙ omega arith)) ∙ here

pub blocks_law : EachBlockIsADumps
unfolding dump_by
blocks_law preference plain dumps made block some are is within =
    let known = no_conflict preference plain dumps made is in
    let image : merged_image dumps (choices preference dumps) ≡ made.image = ap (λ (d : DumpView). d.image) known.1 in
    let size = image_size preference dumps in
    let same : length (merged_image dumps (choices preference dumps)) ≡ length made.image = ap length image in
    let inside : block < merged_block_count dumps = omega (arith, size, same, within) in
    subst (IsIn dumps block) (sym (sector_is preference dumps block inside) ∙ ap (λ (i : List (List ℕ)). sector_at i block) image)
    (in_by preference dumps block some are inside (outcome preference block dumps) refl (never_here preference dumps block known.0 inside))

-- ---- its read codes

good_has_no_error : (block : ℕ) (dump : DumpView) → is_good block dump ≡ true → is_read_error (code_of dump.codes block) ≡ false
good_has_no_error block dump h = negated (is_read_error (code_of dump.codes block)) (both_true (has_block block dump) _ h).1
  where
    negated : (b : Bool) → not b ≡ true → b ≡ false
    negated true h = absurd (cc)
    negated false h = refl

no_error_in : (block : ℕ) (dumps : List DumpView) (p : DumpView → Bool) → All (λ x. p x ≡ true → is_good block x ≡ true) dumps
    → is_read_error (code_in block (dump_at dumps (position p dumps))) ≡ false
no_error_in block dumps p each = ap (λ (d : Option DumpView). is_read_error (code_in block d)) (found p dumps) ∙ go (find p dumps) refl
  where
    go : (first : Option DumpView) → find p dumps ≡ first → is_read_error (code_in block first) ≡ false
    go None is = refl
    go (Some dump) is = let known = find_all p (λ x. p x ≡ true → is_good block x ≡ true) dumps each dump is in good_has_no_error block dump (known.0 known.1)

-- if there are as many good copies as dumps, each copy is good
all_counted : (p : DumpView → Bool) (dumps : List DumpView) → count_by p dumps ≡ length dumps → All (λ x. true ≡ true → p x ≡ true) dumps
all_counted p dumps e = tight p (λ x. true) (λ x h. refl) dumps (e ∙ sym (each_counted dumps))
  where
    each_counted : (xs : List DumpView) → count_by (λ x. true) xs ≡ length xs
    each_counted [] = refl
    each_counted (x ∷ xs) = let c = sum_by-cons (λ (y : DumpView). cond true 1 0) x xs in let r = each_counted xs in omega (arith, c, r)

module _ (preference : Preference) (dumps : List DumpView) (block : ℕ) where
  abbrev none_good : Bool
  none_good = good_count block dumps == 0

  lost_by : (became : BlockOutcome) → outcome preference block dumps ≡ became → is_read_error (merged_code became block dumps) ≡ true → All (λ x. is_good block x ≡ false) dumps
  unfolding code_source source
  lost_by Lost is h =
      none_counted (is_good block) dumps (is_number _ _ (shows_lost preference none_good (are_equal block dumps) (good_count block dumps == length dumps) (list_any (wins block dumps) dumps) (counts preference dumps block Lost is)))
  lost_by Conflict is h = absurd (cc)
  lost_by Taken is h = let wrong : true ≡ false = sym h ∙ no_error_in block dumps (is_good block) (λ k d i g. g) in absurd (cc)
  lost_by First is h = let wrong : true ≡ false = sym h ∙ no_error_in block dumps (is_good block) (λ k d i g. g) in absurd (cc)
  lost_by Majority is h = let wrong : true ≡ false = sym h ∙ no_error_in block dumps (wins block dumps) (λ k d i w. wins_good block dumps _ w) in absurd (cc)
  lost_by Same is h =
      let known = shows_same preference none_good (are_equal block dumps) (good_count block dumps == length dumps) (list_any (wins block dumps) dumps) (counts preference dumps block Same is) in
      let all = all_counted (is_good block) dumps (is_number _ _ known.2) in
      let wrong : true ≡ false = sym h ∙ no_error_in block dumps has_codes (λ k d i g. all k d i refl) in
      absurd (cc)

pub code_is : (preference : Preference) (dumps : List DumpView) (block : ℕ) → block < merged_block_count dumps
    → code_of (Some (merged_codes (choices preference dumps))) block ≡ merged_code (outcome preference block dumps) block dumps
unfolding choices choice
code_is preference dumps block within =
    ap (λ (codes : List ℕ). code_of (Some codes) block) (map-map (λ (c : Choice). c.code) (choice preference dumps) (range_with_len 0 (merged_block_count dumps)))
    ∙ get_or-map-range_with_len (λ b. (choice preference dumps b).code) 0 (merged_block_count dumps) block block 0 within (omega arith)

lost_where_error : (preference : Preference) (dumps : List DumpView) (block : ℕ) (keeps : Bool) → block < merged_block_count dumps
    → is_read_error (code_of (if keeps then Some (merged_codes (choices preference dumps)) else None) block) ≡ true → All (λ x. is_good block x ≡ false) dumps
lost_where_error preference dumps block false within h = absurd (cc)
lost_where_error preference dumps block true within h =
    lost_by preference dumps block (outcome preference block dumps) refl (sym (ap is_read_error (code_is preference dumps block within)) ∙ h)

pub errors_law : ErrorsOnlyWhereAllAreLost
unfolding dump_by
errors_law preference plain dumps made block is within h =
    let known = no_conflict preference plain dumps made is in
    let image : merged_image dumps (choices preference dumps) ≡ made.image = ap (λ (d : DumpView). d.image) known.1 in
    let size = image_size preference dumps in
    let same : length (merged_image dumps (choices preference dumps)) ≡ length made.image = ap length image in
    let inside : block < merged_block_count dumps = omega (arith, size, same, within) in
    lost_where_error preference dumps block (keeps_codes plain dumps) inside (ap (λ (d : DumpView). is_read_error (code_of d.codes block)) known.1 ∙ h)
