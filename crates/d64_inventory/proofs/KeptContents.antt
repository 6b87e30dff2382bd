-- What is kept of the contents along ways.
use Rattle.std.proofs.Common.{◌≡◌, ◌≢◌, ℕ, ◌≤◌, eqb, List, [], length, Option, Some, None, refl, sym, ap, ◌∙◌, subst, inl, inr, arith}
use Rattle.std.specs.Prelude.{IfSome, replicate, slice_index_or}
use Rattle.std.specs.List.{slice_set}
use Rattle.std.proofs.lemmas.Bool.{cases_Bool, cases_lt, eqb-true, eqb-false}
use Rattle.std.proofs.lemmas.List.{get_or-set_other, get_or-replicate, get_or_past, length-replicate, length-set}
use Rattle.std.proofs.lemmas.Grind.{get_or-set_at}
use Rattle.d64_survey.specs.Way.{way, way_on, block_at}
use Rattle.d64_survey.specs.declared.way_end.WayEnd.TheVariants.{Off}
use Rattle.d64_survey.proofs.Steps.{off}
use Rattle.d64_survey.proofs.Traced.{same_way}
use Rattle.d64_inventory.specs.Contents.{digested_along}
use Rattle.d64_inventory.specs.ContentTables.{kept_content, RecordsContents}
use Rattle.d64_inventory.specs.declared.row.Content.{Content}

-- what is kept is the length and the digest of the content along the way from a pair
abbrev so : List (List ℕ) → ℕ × ℕ → Content → Type 0
so image pair content = Some content ≡ digested_along image (way image pair)

-- what holds of a value in a list after another one is replaced
held : (P : Content → Type 0) (found other : Option Content) → found ≡ other → IfSome other P → IfSome found P
held P found other same is = subst (λ (f : Option Content). IfSome f P) (sym same) is

-- in a table of nothing nothing is kept
kept_none : (n : ℕ) (block : Option ℕ) → kept_content (replicate n None) block ≡ None
kept_none n None = refl
kept_none n (Some block) = elim (cases_lt block n) [
  | inl within ↦ get_or-replicate n block None None within
  | inr past ↦ get_or_past (replicate n None) block None (let long : length (replicate n None) ≤ block = omega (arith, length-replicate {A = Option Content} n None) in long)
]

-- so what is kept there holds
pub none_kept : (n : ℕ) (image : List (List ℕ)) → RecordsContents image (replicate n None)
none_kept n image = λ pair. held (so image pair) (kept_content (replicate n None) (block_at image pair)) None (kept_none n (block_at image pair)) tt

-- the length and the digest of the content along a way are right
known_is : (image : List (List ℕ)) (pair : ℕ × ℕ) (content : Option Content) → content ≡ digested_along image (way image pair) → IfSome content (so image pair)
known_is image pair None is = tt
known_is image pair (Some content) is = is

-- the length and the digest of one more content are kept
pub one_kept : (image : List (List ℕ)) (contents : List (Option Content)) (pair : ℕ × ℕ) (block : ℕ) (content : Option Content)
    → block_at image pair ≡ Some block → content ≡ digested_along image (way image pair) → RecordsContents image contents → RecordsContents image (slice_set contents block content)
one_kept image contents pair block content found is shows = λ other. by_block other (block_at image other) refl
  where
    by_block : (other : ℕ × ℕ) (b : Option ℕ) → block_at image other ≡ b → IfSome (kept_content (slice_set contents block content) (block_at image other)) (so image other)
    by_block other None e = held (so image other) (kept_content (slice_set contents block content) (block_at image other)) None (ap (kept_content (slice_set contents block content)) e) tt
    by_block other (Some b) e = elim (cases_Bool (eqb b block)) [
      | inl t ↦
          let same = eqb-true b block t in
          elim (cases_lt block (length contents)) [
            | inl inside ↦
                let here = ap (kept_content (slice_set contents block content)) e ∙ get_or-set_at contents block b content None same inside in
                held (so image other) (kept_content (slice_set contents block content) (block_at image other)) content here
                (known_is image other content (is ∙ ap (digested_along image) (same_way image pair other block found (e ∙ ap (λ (n : ℕ). Some n) same))))
            | inr past ↦
                let long : length (slice_set contents block content) ≤ b = omega (arith, length-set contents block content) in
                let here = ap (kept_content (slice_set contents block content)) e ∙ get_or_past (slice_set contents block content) b None long in
                held (so image other) (kept_content (slice_set contents block content) (block_at image other)) None here tt
          ]
      | inr f ↦
          let other_block : b ≢ block = eqb-false b block f in
          let here = ap (kept_content (slice_set contents block content)) e ∙ get_or-set_other contents block b content None other_block ∙ sym (ap (kept_content contents) e) in
          held (so image other) (kept_content (slice_set contents block content) (block_at image other)) (kept_content contents (block_at image other)) here (shows other)
    ]

-- what is kept for the block of a pair belongs to the content along the way
pub kept_at : (image : List (List ℕ)) (contents : List (Option Content)) (pair : ℕ × ℕ) (block n : ℕ) (content : Content) → RecordsContents image contents
    → block_at image pair ≡ Some block → n ≡ block → slice_index_or contents n None ≡ Some content → Some content ≡ digested_along image (way image pair)
kept_at image contents pair block n content shows found same is =
    let there : kept_content contents (block_at image pair) ≡ Some content = ap (kept_content contents) found ∙ ap (λ (k : ℕ). slice_index_or contents k None) (sym same) ∙ is in
    held (so image pair) (Some content) (kept_content contents (block_at image pair)) (sym there) (shows pair)

-- a way from a pair of which the image has no block
no_block : (image : List (List ℕ)) (pair : ℕ × ℕ) → block_at image pair ≡ None → way image pair ≡ ([], Off pair.0 pair.1)
unfolding way
no_block image pair found = ap (way_on (length image) image [] pair) found ∙ off (length image) image [] pair

-- has no content
pub no_content : (image : List (List ℕ)) (pair : ℕ × ℕ) → block_at image pair ≡ None → None ≡ digested_along image (way image pair)
no_content image pair found = sym (ap (digested_along image) (no_block image pair found))
