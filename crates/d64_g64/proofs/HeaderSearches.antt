-- What a search along the headers of a track finds
use Rattle.std.proofs.Common.{◌≡◌, ℕ, Bool, true, false, cond, ◌&&◌, Option, Some, None, List, [], ◌∷◌, length, refl, sym, ap, ap₂, ◌∙◌, inl, inr, arith}
use Rattle.std.specs.Prelude.{◌==◌, unwrap_or, MatchOption}
use Rattle.std.proofs.lemmas.Bool.{cases_Bool, eq-eqb, ne_eqb}
use Rattle.std.proofs.lemmas.Bool.Decides.{eqb_tells}
use Rattle.std.specs.List.{find}
use Rattle.std.specs.Option.{option_or, option_map_or}
use Rattle.d64_g64.specs.Starts.{starts_on, start_pairs, paired}
use Rattle.d64_g64.specs.Headers.{names_block, is_good_header, has_other_id}
use Rattle.d64_g64.specs.Blocks.{names_readable, header_code, data_code, bytes_behind, header_of, block_code_of, block_bytes_of, blank}

-- a header's code, by what was tested
pub code_by_parts : (id : Option (ℕ × ℕ)) (track : List ℕ) (pair : ℕ × ℕ) (good other : Bool) → good ≡ is_good_header track pair → other ≡ has_other_id id track pair
    → cond good (cond other 11 (data_code track pair.1)) 9 ≡ header_code id track pair
unfolding header_code
code_by_parts id track pair good other is has = ap₂ (λ (a b : Bool). cond a (cond b 11 (data_code track pair.1)) 9) is has

-- a header that isn't good, whatever its id
pub code_of_bad : (id : Option (ℕ × ℕ)) (track : List ℕ) (pair : ℕ × ℕ) → false ≡ is_good_header track pair → 9 ≡ header_code id track pair
unfolding header_code
code_of_bad id track pair is = ap (λ (a : Bool). cond a (cond (has_other_id id track pair) 11 (data_code track pair.1)) 9) is

-- the first header with code 1 is the block's
pub found_good : (id : Option (ℕ × ℕ)) (track : List ℕ) (number sector : ℕ) (pair : ℕ × ℕ)
    → find (names_readable id track number sector) (start_pairs track) ≡ Some pair → header_of id track number sector ≡ Some pair
unfolding header_of
found_good id track number sector pair is = ap (λ (o : Option (ℕ × ℕ)). option_or o (find (names_block track number sector) (start_pairs track))) is

-- else the first one that names it
pub found_first : (id : Option (ℕ × ℕ)) (track : List ℕ) (number sector : ℕ)
    → find (names_readable id track number sector) (start_pairs track) ≡ None
    → header_of id track number sector ≡ find (names_block track number sector) (start_pairs track)
unfolding header_of
found_first id track number sector is = ap (λ (o : Option (ℕ × ℕ)). option_or o (find (names_block track number sector) (start_pairs track))) is

-- a track without a start
pub code_without : (id : Option (ℕ × ℕ)) (track : List ℕ) (number sector : ℕ) → length (starts_on track) ≡ 0 → 3 ≡ block_code_of id track number sector
unfolding block_code_of
code_without id track number sector is =
    sym (ap (λ (b : Bool). cond b 3 (option_map_or (header_code id track) (header_of id track number sector) 2)) (eq-eqb _ _ is))

pub bytes_without : (id : Option (ℕ × ℕ)) (track : List ℕ) (number sector : ℕ) → length (starts_on track) ≡ 0 → blank ≡ block_bytes_of id track number sector
unfolding block_bytes_of header_of
bytes_without id track number sector is =
    let none : start_pairs track ≡ [] = ap paired (empty (starts_on track) is) in
    sym (ap (λ (xs : List (ℕ × ℕ)). option_map_or (λ pair. bytes_behind track pair.1)
    (option_or (find (names_readable id track number sector) xs) (find (names_block track number sector) xs)) blank) none)
  where
    empty : (xs : List ℕ) → length xs ≡ 0 → xs ≡ []
    empty [] e = refl
    empty (x ∷ xs) e = absurd (omega arith)

-- a track with one: the code of the block's header
pub code_with : (id : Option (ℕ × ℕ)) (track : List ℕ) (number sector : ℕ) (found : Option (ℕ × ℕ)) → (length (starts_on track) ≡ 0 → ⊥)
    → header_of id track number sector ≡ found → option_map_or (header_code id track) found 2 ≡ block_code_of id track number sector
unfolding block_code_of
code_with id track number sector found some is =
    sym (ap (λ (b : Bool). cond b 3 (option_map_or (header_code id track) (header_of id track number sector) 2)) (ne_eqb _ _ some)
    ∙ ap (λ (o : Option (ℕ × ℕ)). option_map_or (header_code id track) o 2) is)

pub bytes_with : (id : Option (ℕ × ℕ)) (track : List ℕ) (number sector : ℕ) (found : Option (ℕ × ℕ)) → header_of id track number sector ≡ found
    → option_map_or (λ pair. bytes_behind track pair.1) found blank ≡ block_bytes_of id track number sector
unfolding block_bytes_of
bytes_with id track number sector found is = sym (ap (λ (o : Option (ℕ × ℕ)). option_map_or (λ pair. bytes_behind track pair.1) o blank) is)

-- a header with code 1 has it
pub found_has : (p : ℕ × ℕ → Bool) (pairs : List (ℕ × ℕ)) (pair : ℕ × ℕ) → find p pairs ≡ Some pair → p pair ≡ true
found_has p [] pair e = absurd (cc)
found_has p (first ∷ rest) pair e = elim (cases_Bool (p first)) [
  | inl passes ↦
      let same : Some first ≡ Some pair = sym (ap (λ (b : Bool). cond b (Some first) (find p rest)) passes) ∙ e in
      ap p (sym (ap (λ o. unwrap_or o pair) same)) ∙ passes
  | inr fails ↦ found_has p rest pair (sym (ap (λ (b : Bool). cond b (Some first) (find p rest)) fails) ∙ e)
]

pub code_one : (id : Option (ℕ × ℕ)) (track : List ℕ) (number sector : ℕ) (pair : ℕ × ℕ)
    → find (names_readable id track number sector) (start_pairs track) ≡ Some pair → 1 ≡ header_code id track pair
code_one id track number sector pair is =
    second (names_block track number sector pair) (header_code id track pair) (found_has (names_readable id track number sector) (start_pairs track) pair is)
  where
    second : (b : Bool) (n : ℕ) → (b && (n == 1)) ≡ true → 1 ≡ n
    second false n h = absurd (cc)
    second true n h = elim (eqb_tells n 1) [ inl same ↦ sym same.1 | inr other ↦ let wrong : true ≡ false = sym h ∙ other.0 in absurd (cc) ]

-- the block, if that search found a header
pub good_block : (id : Option (ℕ × ℕ)) (track : List ℕ) (number sector : ℕ) (there : Bool) (block : List ℕ) (found : Option (ℕ × ℕ))
    → find (names_readable id track number sector) (start_pairs track) ≡ found → there ≡ true → (length (starts_on track) ≡ 0 → ⊥)
    → MatchOption found (there ≡ false) (λ pair. (there ≡ true) × (block ≡ bytes_behind track pair.1))
    → (1 ≡ block_code_of id track number sector) × (block ≡ block_bytes_of id track number sector)
good_block id track number sector there block None is yes_there some none = let wrong : true ≡ false = sym yes_there ∙ none in absurd (cc)
good_block id track number sector there block (Some pair) is yes_there some read = (
  code_one id track number sector pair is ∙ code_with id track number sector (Some pair) some (found_good id track number sector pair is),
  read.1 ∙ bytes_with id track number sector (Some pair) (found_good id track number sector pair is),
)

-- and if it found no header
pub no_good : (there : Bool) (found : Option (ℕ × ℕ)) (A : ℕ × ℕ → Type 0) → there ≡ false → MatchOption found (there ≡ false) (λ pair. (there ≡ true) × A pair) → found ≡ None
no_good there None A not_there none = refl
no_good there (Some pair) A not_there read = let wrong : true ≡ false = sym read.0 ∙ not_there in absurd (cc)

pub first_block : (id : Option (ℕ × ℕ)) (track : List ℕ) (number sector : ℕ) (code : ℕ) (block : List ℕ) (found : Option (ℕ × ℕ))
    → find (names_readable id track number sector) (start_pairs track) ≡ None → find (names_block track number sector) (start_pairs track) ≡ found → (length (starts_on track) ≡ 0 → ⊥)
    → MatchOption found ((code ≡ 2) × (block ≡ blank)) (λ pair. (code ≡ header_code id track pair) × (block ≡ bytes_behind track pair.1))
    → (code ≡ block_code_of id track number sector) × (block ≡ block_bytes_of id track number sector)
first_block id track number sector code block None none is some read = (
  read.0 ∙ code_with id track number sector None some (found_first id track number sector none ∙ is),
  read.1 ∙ bytes_with id track number sector None (found_first id track number sector none ∙ is),
)
first_block id track number sector code block (Some pair) none is some read = (
  read.0 ∙ code_with id track number sector (Some pair) some (found_first id track number sector none ∙ is),
  read.1 ∙ bytes_with id track number sector (Some pair) (found_first id track number sector none ∙ is),
)
