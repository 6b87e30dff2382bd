-- One dump, or equal ones, make that dump
use Rattle.std.proofs.Common.{◌≡◌, ℕ, ◌*◌, ◌<◌, zero, suc, Bool, true, false, ◌||◌, cond, if◌then◌else◌, ◌⊎◌, is_some, Option, Some, None, List, [], length, replicate, refl, sym, ap, ap₂, ◌∙◌, arith, inl, inr}
use Rattle.std.specs.Prelude.{◌==◌}
use Rattle.std.specs.List.{count_by, find, list_any, position, range_with_len}
use Rattle.std.specs.Option.{option_map_or, option_or}
use Rattle.std.proofs.lemmas.Bool.{eq-eqb, ne_eqb, lt-ltb}
use Rattle.std.proofs.lemmas.Simd.{map-map}
use Rattle.std.proofs.lemmas.List.Folds.{sum_by-replicate}
use Rattle.std.proofs.lemmas.List.{length-replicate, ext_get_or}
use Rattle.std.proofs.lemmas.List.FromFn.{length-map-range_with_len, length-range_with_len, get_or-range_with_len}
use Rattle.d64_image.specs.Image.{sector_at, tracks_of, count_of_tracks}
use Rattle.d64_survey.specs.Dump.{DumpView, IsDump, HasCodes}
use Rattle.d64_survey.specs.ReadErrors.{code_of}
use Rattle.d64_merge.specs.Copies.{has_block, is_good, has_bad_checksum, agree, good_count, votes, wins}
use Rattle.d64_merge.specs.Choices.{are_equal, dump_at, has_codes, outcome, source, choice, code_source, code_in, merged_code}
use Rattle.d64_merge.specs.Merged.{has_40_tracks, merged_block_count, choices, is_outcome, outcome_count, merged_image, merged_codes, dump_by, dump_of_choices, merged}
use Rattle.d64_merge.specs.Laws.{EqualDumpsMakeThatDump}
use Rattle.d64_merge.specs.declared.choice.Choice.{Choice}
use Rattle.d64_merge.specs.declared.outcome.Preference.{Preference}
use Rattle.d64_merge.specs.declared.outcome.BlockOutcome.{BlockOutcome}
use Rattle.d64_merge.specs.declared.outcome.BlockOutcome.TheVariants.{Same, Lost, Conflict}
use Rattle.d64_merge.proofs.Counts.{found}
use Rattle.d64_merge.proofs.Agreements.{agree_by}
use Rattle.d64_merge.proofs.Orders.{outcome_by}
use Rattle.d64_merge.proofs.OrderedBlocks.{bytes_in}
use Rattle.d64_merge.proofs.MergedOrders.{outcome_is, counted_never}
use Rattle.d64_merge.proofs.MergedBlocks.{place_cases, image_size, sector_is, code_is, became_of}

-- one of equal dumps passes a test exactly if the dump does; if so, the first one that passes is
-- that dump
any_equal : (p : DumpView → Bool) (n : ℕ) (dump : DumpView) → list_any p (replicate (suc n) dump) ≡ p dump
any_equal p n dump = go (p dump) refl
  where
    none : (m : ℕ) → p dump ≡ false → list_any p (replicate m dump) ≡ false
    none zero is = refl
    none (suc m) is = ap₂ (λ (a b : Bool). a || b) is (none m is)

    go : (t : Bool) → p dump ≡ t → list_any p (replicate (suc n) dump) ≡ p dump
    go true is = ap (λ (b : Bool). b || list_any p (replicate n dump)) is ∙ sym is
    go false is = none (suc n) is ∙ sym is

find_equal : (p : DumpView → Bool) (n : ℕ) (dump : DumpView) → p dump ≡ true → find p (replicate (suc n) dump) ≡ Some dump
find_equal p n dump is = ap (λ (b : Bool). cond b (Some dump) (find p (replicate n dump))) is

find_nowhere : (p : DumpView → Bool) (m : ℕ) (dump : DumpView) → p dump ≡ false → find p (replicate m dump) ≡ None
find_nowhere p zero dump is = refl
find_nowhere p (suc m) dump is = ap (λ (b : Bool). cond b (Some dump) (find p (replicate m dump))) is ∙ find_nowhere p m dump is

-- the dump at the place of the first one that passes, and how many pass
placed_equal : (p : DumpView → Bool) (n : ℕ) (dump : DumpView) → p dump ≡ true → dump_at (replicate (suc n) dump) (position p (replicate (suc n) dump)) ≡ Some dump
placed_equal p n dump is = found p (replicate (suc n) dump) ∙ find_equal p n dump is

placed_nowhere : (p : DumpView → Bool) (n : ℕ) (dump : DumpView) → p dump ≡ false → dump_at (replicate (suc n) dump) (position p (replicate (suc n) dump)) ≡ None
placed_nowhere p n dump is = found p (replicate (suc n) dump) ∙ find_nowhere p (suc n) dump is

count_equal : (p : DumpView → Bool) (n : ℕ) (dump : DumpView) → p dump ≡ true → count_by p (replicate (suc n) dump) ≡ suc n
count_equal p n dump is =
    let one : cond (p dump) 1 0 ≡ 1 = ap (λ (b : Bool). cond b 1 0) is in
    sum_by-replicate (λ (x : DumpView). cond (p x) 1 0) (suc n) dump ∙ ap (λ (k : ℕ). suc n * k) one ∙ omega arith

count_nowhere : (p : DumpView → Bool) (n : ℕ) (dump : DumpView) → p dump ≡ false → count_by p (replicate (suc n) dump) ≡ 0
count_nowhere p n dump is =
    let none : cond (p dump) 1 0 ≡ 0 = ap (λ (b : Bool). cond b 1 0) is in
    sum_by-replicate (λ (x : DumpView). cond (p x) 1 0) (suc n) dump ∙ ap (λ (k : ℕ). suc n * k) none ∙ omega arith

-- if equal dumps have no good copy of a block, the copy of that dump is taken
lost_source : (block n : ℕ) (dump : DumpView) → has_block block dump ≡ true
    → dump_at (replicate (suc n) dump) (option_or (position (has_bad_checksum block) (replicate (suc n) dump)) (position (has_block block) (replicate (suc n) dump))) ≡ Some dump
lost_source block n dump there =
    let dumps : List DumpView = replicate (suc n) dump in
    let other = position (has_block block) dumps in
    elim (place_cases (has_bad_checksum block) dumps) [
      | inl w ↦ ap (λ (o : Option ℕ). dump_at dumps (option_or o other)) w.1 ∙ ap (dump_at dumps) (sym w.1)
          ∙ placed_equal (has_bad_checksum block) n dump (sym (any_equal (has_bad_checksum block) n dump) ∙ w.2)
      | inr w ↦ ap (λ (o : Option ℕ). dump_at dumps (option_or o other)) w.0 ∙ placed_equal (has_block block) n dump there
    ]

no_code : (codes : Option (List ℕ)) (block : ℕ) → is_some codes ≡ false → code_of codes block ≡ 0
no_code None block is = refl
no_code (Some codes) block is = absurd (cc)

-- what becomes of a block of equal dumps
record Kept (preference : Preference) (n : ℕ) (dump : DumpView) (block : ℕ) : Type 0 where
  agrees : is_outcome Conflict (outcome preference block (replicate (suc n) dump)) ≡ false
  bytes : bytes_in block (dump_at (replicate (suc n) dump) (source (outcome preference block (replicate (suc n) dump)) block (replicate (suc n) dump))) ≡ sector_at dump.image block
  code : merged_code (outcome preference block (replicate (suc n) dump)) block (replicate (suc n) dump) ≡ code_of dump.codes block

module _ (preference : Preference) (n : ℕ) (dump : DumpView) (block : ℕ) (there : has_block block dump ≡ true) where
  abbrev dumps : List DumpView
  dumps = replicate (suc n) dump

  same_code : code_in block (dump_at dumps (position has_codes dumps)) ≡ code_of dump.codes block
  same_code = go (has_codes dump) refl
    where
      go : (t : Bool) → has_codes dump ≡ t → code_in block (dump_at dumps (position has_codes dumps)) ≡ code_of dump.codes block
      go true is = ap (code_in block) (placed_equal has_codes n dump is)
      go false is = ap (code_in block) (placed_nowhere has_codes n dump is) ∙ sym (no_code dump.codes block is)

  kept_good : is_good block dump ≡ true → Kept preference n dump block
  unfolding source code_source
  kept_good good =
      let count = count_equal (is_good block) n dump good in
      let none : (good_count block dumps == 0) ≡ false = ne_eqb _ _ (λ is. omega (arith, count, is)) in
      let equal : are_equal block dumps ≡ true =
      ap (λ (d : Option DumpView). option_map_or (λ d. votes block dumps d == good_count block dumps) d true) (placed_equal (is_good block) n dump good)
      ∙ eq-eqb _ _ (count_equal (agree block dump) n dump (agree_by block dump dump good good refl) ∙ sym count) in
      let all : (good_count block dumps == length dumps) ≡ true = eq-eqb _ _ (count ∙ sym (length-replicate (suc n) dump)) in
      let is : outcome preference block dumps ≡ Same =
      outcome_is preference block dumps
      ∙ ap₂ (λ (a b : Bool). outcome_by preference a b (good_count block dumps == length dumps) (list_any (wins block dumps) dumps)) none equal
      ∙ ap (λ (c : Bool). outcome_by preference false true c (list_any (wins block dumps) dumps)) all in
      record {
        agrees = ap (is_outcome Conflict) is;
        bytes = ap (λ (o : BlockOutcome). bytes_in block (dump_at dumps (source o block dumps))) is ∙ ap (bytes_in block) (placed_equal (is_good block) n dump good);
        code = ap (λ (o : BlockOutcome). merged_code o block dumps) is ∙ same_code;
      }

  kept_lost : is_good block dump ≡ false → Kept preference n dump block
  unfolding source code_source
  kept_lost bad =
      let none : (good_count block dumps == 0) ≡ true = eq-eqb _ _ (count_nowhere (is_good block) n dump bad) in
      let is : outcome preference block dumps ≡ Lost =
      outcome_is preference block dumps
      ∙ ap (λ (a : Bool). outcome_by preference a (are_equal block dumps) (good_count block dumps == length dumps) (list_any (wins block dumps) dumps)) none in
      record {
        agrees = ap (is_outcome Conflict) is;
        bytes = ap (λ (o : BlockOutcome). bytes_in block (dump_at dumps (source o block dumps))) is ∙ ap (bytes_in block) (lost_source block n dump there);
        code = ap (λ (o : BlockOutcome). merged_code o block dumps) is ∙ ap (code_in block) (lost_source block n dump there);
      }

  kept : Kept preference n dump block
  kept = go (is_good block dump) refl
    where
      go : (t : Bool) → is_good block dump ≡ t → Kept preference n dump block
      go true is = kept_good is
      go false is = kept_lost is

size_is : (n : ℕ) → ((n ≡ 683) ⊎ (n ≡ 768)) → count_of_tracks (if tracks_of n == 40 then 40 else 35) ≡ n
size_is n (inl is) = ap (λ (m : ℕ). count_of_tracks (if tracks_of m == 40 then 40 else 35)) is ∙ sym is
size_is n (inr is) = ap (λ (m : ℕ). count_of_tracks (if tracks_of m == 40 then 40 else 35)) is ∙ sym is

module _ (preference : Preference) (n : ℕ) (dump : DumpView) (is_dump : IsDump dump) where
  abbrev all : List DumpView
  all = replicate (suc n) dump

  same_size : merged_block_count all ≡ length dump.image
  same_size = ap (λ (b : Bool). count_of_tracks (if b then 40 else 35)) (any_equal has_40_tracks n dump) ∙ size_is (length dump.image) is_dump.0.0

  at_block : (block : ℕ) → block < merged_block_count all → Kept preference n dump block
  at_block block within = let size = same_size in kept preference n dump block (lt-ltb _ _ (omega (arith, within, size)))

  same_image : merged_image all (choices preference all) ≡ dump.image
  same_image =
      let size = image_size preference all in
      ext_get_or [] (merged_image all (choices preference all)) dump.image (size ∙ same_size)
      (λ i h. let within : i < merged_block_count all = omega (arith, h, size) in sector_is preference all i within ∙ (at_block i within).bytes)

  codes_length : length (merged_codes (choices preference all)) ≡ merged_block_count all
  unfolding choices
  codes_length =
      ap length (map-map (λ (c : Choice). c.code) (choice preference all) (range_with_len 0 (merged_block_count all)))
      ∙ length-map-range_with_len (λ b. (choice preference all b).code) 0 (merged_block_count all)

  same_codes : (codes : Option (List ℕ)) → dump.codes ≡ codes → HasCodes dump.image codes → (if is_some codes then Some (merged_codes (choices preference all)) else None) ≡ codes
  same_codes None is has = refl
  same_codes (Some codes) is has =
      let size = codes_length in
      ap (λ (list : List ℕ). Some list)
      (ext_get_or 0 (merged_codes (choices preference all)) codes (size ∙ same_size ∙ sym has)
      (λ i h. let within : i < merged_block_count all = omega (arith, h, size) in
      code_is preference all i within ∙ (at_block i within).code ∙ ap (λ (c : Option (List ℕ)). code_of c i) is))

  no_conflicts : outcome_count Conflict (choices preference all) ≡ 0
  no_conflicts =
      let count = merged_block_count all in
      counted_never Conflict preference all (λ k d h.
      let within : k < count = let e = length-range_with_len 0 count in omega (arith, e, h) in
      ap (λ (b : ℕ). is_outcome Conflict (choice preference all b).outcome) (get_or-range_with_len 0 count k d within ∙ omega arith)
      ∙ ap (is_outcome Conflict) (became_of preference all k) ∙ (at_block k within).agrees)

  same_dump : merged preference false all ≡ Some dump
  unfolding dump_of_choices dump_by
  same_dump =
      let made : Bool → DumpView = λ keeps. record { image = merged_image all (choices preference all); codes = if keeps then Some (merged_codes (choices preference all)) else None } in
      let view : List (List ℕ) → Option (List ℕ) → DumpView = λ image codes. record { image = image; codes = codes } in
      ap (λ (b : Bool). if b then Some (made (list_any has_codes all)) else None) (eq-eqb _ _ no_conflicts)
      ∙ ap (λ (b : Bool). Some (made b)) (any_equal has_codes n dump)
      ∙ ap₂ (λ (i : List (List ℕ)) (c : Option (List ℕ)). Some (view i c)) same_image (same_codes dump.codes refl is_dump.1)

pub equal_law : EqualDumpsMakeThatDump
equal_law preference dump count is_dump = same_dump preference count dump is_dump
