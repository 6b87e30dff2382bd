-- the lowest numbers of scratched slots, noted slot after slot
use Rattle.std.proofs.Common.{◌≡◌, ℕ, ◌<◌, ◌≤◌, ◌*◌, ◌||◌, Bool, true, false, cond, nat_eq, List, [], ◌∷◌, ◌++◌, length, take, refl, sym, ap, ap₂, ◌∙◌, inl, inr, arith, append-nil}
use Rattle.std.specs.Prelude.{◌&&◌, nat_lt, filter}
use Rattle.std.specs.List.{flat_map, list_any}
use Rattle.std.proofs.lemmas.Bool.{cases_lt}
use Rattle.std.proofs.lemmas.Bool.Decides.{nat_tests}
use Rattle.std.proofs.lemmas.List.{take_all, take-append-le, length-append}
use Rattle.std.proofs.lemmas.List.Elements.{filter-append}
use Rattle.std.proofs.lemmas.List.Folds.{list_any-append}
use Rattle.std.proofs.lemmas.List.Concat.{flat_map-append}
use Rattle.d64_image.specs.declared.block.TheConstants.{BLOCKS}
use Rattle.d64_scratched.specs.Claims.{lowest_of, Lowers}
use Rattle.d64_scratched.specs.Scratched.{is_scratched, scratched_way, blocks_left}
use Rattle.d64_scratched.specs.declared.lowest.LowestSlots.{LowestSlots}

or_nothing : (b : Bool) → b ≡ (b || false)
or_nothing true = refl
or_nothing false = refl

-- the table in which nothing is noted
pub nothing_noted : (number : ℕ) → number < 65536 → nat_lt 65535 number ≡ false
nothing_noted number few = let past : number ≤ 65535 = omega arith in grind (arith, nat_tests)

-- the blocks that one more slot leaves
left_more : (image seen : List (List ℕ)) (cell : List ℕ) (block : ℕ)
    → list_any (nat_eq block) (blocks_left image (seen ++ cell ∷ []))
    ≡ (list_any (nat_eq block) (blocks_left image seen) || (is_scratched cell && list_any (nat_eq block) (scratched_way image cell).0))
left_more image seen cell block =
    let blocks : List (List ℕ) → List ℕ = flat_map (λ c. (scratched_way image c).0) in
    ap (λ (cells : List (List ℕ)). list_any (nat_eq block) (blocks cells)) (filter-append is_scratched seen (cell ∷ []))
    ∙ ap (list_any (nat_eq block)) (flat_map-append (λ c. (scratched_way image c).0) (filter is_scratched seen) (filter is_scratched (cell ∷ [])))
    ∙ list_any-append (nat_eq block) (blocks (filter is_scratched seen)) (blocks (filter is_scratched (cell ∷ [])))
    ∙ ap (λ (t : Bool). list_any (nat_eq block) (blocks (filter is_scratched seen)) || t) (by_test (is_scratched cell))
  where
    by_test : (scratched : Bool)
        → list_any (nat_eq block) (flat_map (λ c. (scratched_way image c).0) (cond scratched (cell ∷ []) []))
        ≡ (scratched && list_any (nat_eq block) (scratched_way image cell).0)
    by_test true = ap (list_any (nat_eq block)) (append-nil (scratched_way image cell).0)
    by_test false = refl

and_true : (a b : Bool) → (a && b) ≡ (a && (b && true))
and_true true true = refl
and_true true false = refl
and_true false b = refl

and_false : (a b : Bool) → (a && (b && false)) ≡ false
and_false true true = refl
and_false true false = refl
and_false false b = refl

-- and below a number
pub claims_more : (image seen : List (List ℕ)) (cell : List ℕ) (block number : ℕ)
    → list_any (nat_eq block) (blocks_left image (take number (seen ++ cell ∷ [])))
    ≡ (list_any (nat_eq block) (blocks_left image (take number seen))
    || (is_scratched cell && (list_any (nat_eq block) (scratched_way image cell).0 && nat_lt (length seen) number)))
claims_more image seen cell block number =
    let test : List (List ℕ) → Bool = λ cells. list_any (nat_eq block) (blocks_left image cells) in
    let in_way : Bool = list_any (nat_eq block) (scratched_way image cell).0 in
    elim (cases_lt (length seen) number) [
      | inl past ↦
          let t : nat_lt (length seen) number ≡ true = grind (arith, nat_tests) in
          let more : length (seen ++ cell ∷ []) ≤ number = let e = length-append seen (cell ∷ []) in omega arith in
          let all : take number seen ≡ seen = take_all number seen (omega arith) in
          ap test (take_all number (seen ++ cell ∷ []) more) ∙ left_more image seen cell block
          ∙ ap₂ (λ (a b : Bool). a || b) (sym (ap test all)) (and_true (is_scratched cell) in_way)
          ∙ sym (ap (λ (b : Bool). test (take number seen) || (is_scratched cell && (in_way && b))) t)
      | inr within ↦
          let t : nat_lt (length seen) number ≡ false = grind (arith, nat_tests) in
          ap test (take-append-le number seen (cell ∷ []) within)
          ∙ or_nothing (test (take number seen))
          ∙ sym (ap (λ (b : Bool). test (take number seen) || b) (and_false (is_scratched cell) in_way))
          ∙ sym (ap (λ (b : Bool). test (take number seen) || (is_scratched cell && (in_way && b))) t)
    ]

-- the table says for each block whether it is in the way of a scratched slot of these below a
-- number
abbrev pub Records : List (List ℕ) → List (List ℕ) → LowestSlots → Type 0
Records image seen table =
    (block number : ℕ)
    → block < BLOCKS
    → number ≤ 8 * BLOCKS
    → nat_lt (lowest_of table block) number ≡ list_any (nat_eq block) (blocks_left image (take number seen))

-- a scratched slot is noted
pub records-scratched : (image seen : List (List ℕ)) (cell : List ℕ) (old new : LowestSlots) → is_scratched cell ≡ true → Records image seen old
    → Lowers old (scratched_way image cell).0 (length seen) new → Records image (seen ++ cell ∷ []) new
records-scratched image seen cell old new scratched records lowers block number within few =
    let in_way : Bool = list_any (nat_eq block) (scratched_way image cell).0 in
    lowers block number within
    ∙ ap (λ (a : Bool). a || (in_way && nat_lt (length seen) number)) (records block number within few)
    ∙ ap (λ (s : Bool). list_any (nat_eq block) (blocks_left image (take number seen)) || (s && (in_way && nat_lt (length seen) number))) (sym scratched)
    ∙ sym (claims_more image seen cell block number)

-- another one isn't
pub records-other : (image seen : List (List ℕ)) (cell : List ℕ) (table : LowestSlots) → is_scratched cell ≡ false → Records image seen table
    → Records image (seen ++ cell ∷ []) table
records-other image seen cell table other records block number within few =
    let in_way : Bool = list_any (nat_eq block) (scratched_way image cell).0 in
    records block number within few
    ∙ or_nothing (list_any (nat_eq block) (blocks_left image (take number seen)))
    ∙ ap (λ (s : Bool). list_any (nat_eq block) (blocks_left image (take number seen)) || (s && (in_way && nat_lt (length seen) number))) (sym other)
    ∙ sym (claims_more image seen cell block number)
