-- A block with code 1 is a sound one
use Rattle.std.proofs.Common.{◌≡◌, ℕ, Bool, true, false, ◌&&◌, not, cond, Option, Some, None, List, [], ◌∷◌, length, refl, sym, ap, ap₂, ◌∙◌, inl, inr, arith}
use Rattle.std.specs.Prelude.{◌==◌, is_some, unwrap_or}
use Rattle.std.specs.List.{find}
use Rattle.std.specs.Option.{option_map_or}
use Rattle.std.proofs.lemmas.Bool.{cases_Bool, eq-eqb}
use Rattle.std.proofs.lemmas.Bool.Decides.{eqb_tells}
use Rattle.d64_image.specs.Block.{pair_at}
use Rattle.d64_g64.specs.Starts.{starts_on, start_pairs, paired}
use Rattle.d64_g64.specs.Headers.{names_block, is_good_header, has_other_id}
use Rattle.d64_g64.specs.Blocks.{names_readable, header_code, data_code, is_data, is_whole_block, data_bytes, bytes_behind, block_code_of, block_bytes_of, blank}
use Rattle.d64_g64.specs.Dump.{id_in}
use Rattle.d64_g64.specs.Laws.{is_sound_block}
use Rattle.d64_g64.proofs.HeaderSearches.{found_good, found_first, code_with, code_without, bytes_with, found_has, code_one}

-- two tests that agree find the same
find_same : (p q : ℕ × ℕ → Bool) (pairs : List (ℕ × ℕ)) → ((pair : ℕ × ℕ) → p pair ≡ q pair) → find p pairs ≡ find q pairs
find_same p q [] same = refl
find_same p q (first ∷ rest) same = ap₂ (λ (b : Bool) (o : Option (ℕ × ℕ)). cond b (Some first) o) (same first) (find_same p q rest same)

-- what one test finds, another that finds nothing refuses
refuses : (p q : ℕ × ℕ → Bool) (pairs : List (ℕ × ℕ)) (pair : ℕ × ℕ) → find q pairs ≡ Some pair → find p pairs ≡ None → p pair ≡ false
refuses p q [] pair found none = absurd (cc)
refuses p q (first ∷ rest) pair found none = elim (cases_Bool (p first)) [
  | inl passes ↦ let wrong : Some first ≡ None = sym (ap (λ (b : Bool). cond b (Some first) (find p rest)) passes) ∙ none in absurd (cc)
  | inr fails ↦
      let later : find p rest ≡ None = sym (ap (λ (b : Bool). cond b (Some first) (find p rest)) fails) ∙ none in
      elim (cases_Bool (q first)) [
        | inl here ↦
            let same : Some first ≡ Some pair = sym (ap (λ (b : Bool). cond b (Some first) (find q rest)) here) ∙ found in
            ap p (sym (ap (λ o. unwrap_or o pair) same)) ∙ fails
        | inr not_here ↦ refuses p q rest pair (sym (ap (λ (b : Bool). cond b (Some first) (find q rest)) not_here) ∙ found) later
      ]
]

-- a header of code 1 that names the block is a sound one
by_parts : (named good other there whole : Bool) → (named && (cond good (cond other 11 (cond there (cond whole 1 5) 4)) 9 == 1)) ≡ ((named && good && not other) && (there && whole))
by_parts false good other there whole = refl
by_parts true false other there whole = refl
by_parts true true true there whole = refl
by_parts true true false false whole = refl
by_parts true true false true true = refl
by_parts true true false true false = refl

pub sound_is : (file track : List ℕ) (block : ℕ) (pair : ℕ × ℕ)
    → names_readable (id_in file) track (pair_at block).0 (pair_at block).1 pair ≡ is_sound_block file track block pair
unfolding header_code data_code
sound_is file track block pair =
    by_parts (names_block track (pair_at block).0 (pair_at block).1 pair) (is_good_header track pair) (has_other_id (id_in file) track pair) (is_data track pair.1) (is_whole_block track pair.1)

-- so the search for the one is the search for the other
pub search_is : (file track : List ℕ) (block : ℕ)
    → find (names_readable (id_in file) track (pair_at block).0 (pair_at block).1) (start_pairs track) ≡ find (is_sound_block file track block) (start_pairs track)
search_is file track block =
    find_same (names_readable (id_in file) track (pair_at block).0 (pair_at block).1) (is_sound_block file track block) (start_pairs track) (λ pair. sound_is file track block pair)

-- a track on which something is found has a start
some_start : (p : ℕ × ℕ → Bool) (starts : List ℕ) (pair : ℕ × ℕ) → find p (paired starts) ≡ Some pair → length starts ≡ 0 → ⊥
some_start p [] pair found none = absurd (cc)
some_start p (first ∷ rest) pair found none = omega arith

pub code_of_sound : (id : Option (ℕ × ℕ)) (track : List ℕ) (number sector : ℕ) (found : Option (ℕ × ℕ))
    → find (names_readable id track number sector) (start_pairs track) ≡ found → is_some found ≡ true → block_code_of id track number sector ≡ 1
code_of_sound id track number sector None is some = absurd (cc)
code_of_sound id track number sector (Some pair) is some =
    sym (code_one id track number sector pair is
    ∙ code_with id track number sector (Some pair) (some_start (names_readable id track number sector) (starts_on track) pair is) (found_good id track number sector pair is))

pub sound_of_code : (id : Option (ℕ × ℕ)) (track : List ℕ) (number sector : ℕ) (found first : Option (ℕ × ℕ))
    → find (names_readable id track number sector) (start_pairs track) ≡ found → find (names_block track number sector) (start_pairs track) ≡ first
    → block_code_of id track number sector ≡ 1 → is_some found ≡ true
sound_of_code id track number sector (Some pair) first is first_is one = refl
sound_of_code id track number sector None first is first_is one = elim (eqb_tells (length (starts_on track)) 0) [
  | inl none ↦ let wrong : ◌≡◌ {A = ℕ} 3 1 = code_without id track number sector none.1 ∙ one in absurd (omega arith)
  | inr some ↦ by_first first first_is (code_with id track number sector first some.1 (found_first id track number sector is ∙ first_is) ∙ one)
]
  where
    by_first : (o : Option (ℕ × ℕ)) → find (names_block track number sector) (start_pairs track) ≡ o → option_map_or (header_code id track) o 2 ≡ 1 → is_some {T = ℕ × ℕ} None ≡ true
    by_first None o_is wrong = absurd (omega arith)
    by_first (Some pair) o_is code =
        let passes : (names_block track number sector pair && (header_code id track pair == 1)) ≡ true = ap₂ ◌&&◌ (found_has (names_block track number sector) (start_pairs track) pair o_is) (eq-eqb _ _ code) in
        let fails = refuses (names_readable id track number sector) (names_block track number sector) (start_pairs track) pair o_is is in
        let wrong : true ≡ false = sym passes ∙ fails in absurd (cc)

-- and its bytes are those behind it
pub bytes_of_sound : (file track : List ℕ) (block : ℕ) (pair : ℕ × ℕ) → find (is_sound_block file track block) (start_pairs track) ≡ Some pair
    → block_bytes_of (id_in file) track (pair_at block).0 (pair_at block).1 ≡ data_bytes track pair.1
unfolding bytes_behind
bytes_of_sound file track block pair is =
    let found = search_is file track block ∙ is in
    let there : is_data track pair.1 ≡ true =
    last (names_block track (pair_at block).0 (pair_at block).1 pair && is_good_header track pair && not (has_other_id (id_in file) track pair)) (is_data track pair.1) (is_whole_block track pair.1)
    (found_has (is_sound_block file track block) (start_pairs track) pair is) in
    sym (bytes_with (id_in file) track (pair_at block).0 (pair_at block).1 (Some pair) (found_good (id_in file) track (pair_at block).0 (pair_at block).1 pair found))
    ∙ ap (λ (b : Bool). cond b (data_bytes track pair.1) blank) there
  where
    last : (a b c : Bool) → (a && (b && c)) ≡ true → b ≡ true
    last false b c h = absurd (cc)
    last true true c h = refl
    last true false c h = h
