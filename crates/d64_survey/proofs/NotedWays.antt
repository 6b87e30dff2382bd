-- What is noted of ways.
use Rattle.std.proofs.Common.{◌≡◌, ◌≢◌, ℕ, ◌≤◌, eqb, List, length, Option, Some, None, refl, sym, ap, ◌∙◌, subst, inl, inr, arith}
use Rattle.std.specs.Prelude.{IfSome, replicate}
use Rattle.std.specs.List.{slice_set}
use Rattle.std.proofs.lemmas.Bool.{cases_Bool, cases_lt, eqb-true, eqb-false}
use Rattle.std.proofs.lemmas.List.{get_or-set_other, get_or-replicate, get_or_past, length-replicate, length-set}
use Rattle.std.proofs.lemmas.Grind.{get_or-set_at}
use Rattle.d64_survey.specs.Way.{block_at}
use Rattle.d64_survey.specs.WayFacts.{facts_of, way_facts, noted_way, RecordsWays}
use Rattle.d64_survey.specs.declared.way_table.WayFacts.{WayFacts}
use Rattle.d64_survey.proofs.Traced.{same_way}

-- what holds of a value in a list after another one is replaced
held : (P : WayFacts → Type 0) (found other : Option WayFacts) → found ≡ other → IfSome other P → IfSome found P
held P found other same is = subst (λ (f : Option WayFacts). IfSome f P) (sym same) is

-- in a table of nothing nothing is noted
pub noted_none : (n : ℕ) (block : Option ℕ) → noted_way (replicate n None) block ≡ None
noted_none n None = refl
noted_none n (Some block) = elim (cases_lt block n) [
  | inl within ↦ get_or-replicate n block None None within
  | inr past ↦ get_or_past (replicate n None) block None (let long : length (replicate n None) ≤ block = omega (arith, length-replicate {A = Option WayFacts} n None) in long)
]

-- if nothing is noted, all that is noted is true
pub none_noted : (image : List (List ℕ)) (codes : Option (List ℕ)) (ways : List (Option WayFacts)) → ((block : Option ℕ) → noted_way ways block ≡ None) → RecordsWays image codes ways
none_noted image codes ways none = λ pair. held (λ facts. facts ≡ way_facts image codes pair) (noted_way ways (block_at image pair)) None (none (block_at image pair)) tt

-- one more way is noted
pub one_noted : (image : List (List ℕ)) (codes : Option (List ℕ)) (ways : List (Option WayFacts)) (pair : ℕ × ℕ) (block : ℕ) (facts : WayFacts)
    → block_at image pair ≡ Some block → facts ≡ way_facts image codes pair → RecordsWays image codes ways
    → RecordsWays image codes (slice_set ways block (Some facts))
one_noted image codes ways pair block facts found is records = λ other. by_block other (block_at image other) refl
  where
    so : ℕ × ℕ → WayFacts → Type 0
    so other facts = facts ≡ way_facts image codes other

    by_block : (other : ℕ × ℕ) (b : Option ℕ) → block_at image other ≡ b → IfSome (noted_way (slice_set ways block (Some facts)) (block_at image other)) (λ facts. facts ≡ way_facts image codes other)
    by_block other None e = held (so other) (noted_way (slice_set ways block (Some facts)) (block_at image other)) None (ap (noted_way (slice_set ways block (Some facts))) e) tt
    by_block other (Some b) e = elim (cases_Bool (eqb b block)) [
      | inl t ↦
          let same = eqb-true b block t in
          elim (cases_lt block (length ways)) [
            | inl inside ↦
                let here = ap (noted_way (slice_set ways block (Some facts))) e ∙ get_or-set_at ways block b (Some facts) None same inside in
                held (so other) (noted_way (slice_set ways block (Some facts)) (block_at image other)) (Some facts) here
                (is ∙ ap (facts_of image codes) (same_way image pair other block found (e ∙ ap (λ (n : ℕ). Some n) same)))
            | inr past ↦
                let long : length (slice_set ways block (Some facts)) ≤ b = omega (arith, length-set ways block (Some facts)) in
                let here = ap (noted_way (slice_set ways block (Some facts))) e ∙ get_or_past (slice_set ways block (Some facts)) b None long in
                held (so other) (noted_way (slice_set ways block (Some facts)) (block_at image other)) None here tt
          ]
      | inr f ↦
          let other_block : b ≢ block = eqb-false b block f in
          let here = ap (noted_way (slice_set ways block (Some facts))) e ∙ get_or-set_other ways block b (Some facts) None other_block ∙ sym (ap (noted_way ways) e) in
          held (so other) (noted_way (slice_set ways block (Some facts)) (block_at image other)) (noted_way ways (block_at image other)) here (records other)
    ]

-- what is noted is true
pub noted_is : (image : List (List ℕ)) (codes : Option (List ℕ)) (ways : List (Option WayFacts)) (pair : ℕ × ℕ) (facts : WayFacts) → RecordsWays image codes ways
    → Some facts ≡ noted_way ways (block_at image pair) → facts ≡ way_facts image codes pair
noted_is image codes ways pair facts records same = held (λ facts. facts ≡ way_facts image codes pair) (Some facts) (noted_way ways (block_at image pair)) same (records pair)
