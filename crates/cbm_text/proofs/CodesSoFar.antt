-- Crunched bytes, one by one.
use Rattle.std.proofs.Common.{◌≡◌, ◌≢◌, ℕ, ◌<◌, ◌≤◌, length, arith, true, false, ◌+◌, ◌-◌, get_or, take, drop, List, [], ◌∷◌, ◌++◌, Option, Some, None, refl, sym, ◌∙◌, ap, subst, append_assoc}
use Rattle.std.proofs.lemmas.List.{append-nil, take_all, drop_all, drop_more}
use Rattle.std.proofs.lemmas.Bool.{and_parts, eqb-true}
use Rattle.std.specs.Prelude.{◌==◌, suc, zero}
use Rattle.cbm_text.specs.declared.mode.Mode.{Mode}
use Rattle.cbm_text.specs.declared.mode.Mode.TheVariants.{Free, Quoted, Remark, Data, QuotedData}
use Rattle.std.specs.Option.{is_some, option_map_or}
use Rattle.cbm_text.specs.Keywords.{keywords, token_from}
use Rattle.cbm_text.proofs.Keywords.{found, code_in, rest_in, token_shrinks, token_shown}
use Rattle.cbm_text.specs.Modes.{next_mode, crunches_anyhow, single_code, free_code, first_code, CrunchedFrom, expanded_from, text_of_code}

-- what has been crunched of a text, and what is left, read in this mode: what the rest crunches to
-- follows, and every crunched form of the whole comes so
pub record CrunchedSoFar (text codes : List ℕ) (mode : Mode) (left : List ℕ) : Type 0 where
  pub completes : (more : List ℕ) → CrunchedFrom mode left more → CrunchedFrom Free text (codes ++ more)
  pub only : (all : List ℕ) → CrunchedFrom Free text all → (more : List ℕ) × CrunchedFrom mode left more

-- before the first byte
pub crunched_nothing : (text : List ℕ) → CrunchedSoFar text [] Free text
crunched_nothing text = record { completes = λ more crunched. crunched; only = λ all crunched. (all, crunched) }

-- what is found by a single byte, and by a keyword
abbrev after_single : List ℕ → Option ℕ → Option (ℕ × List ℕ)
after_single rest code = option_map_or (λ c. found c rest) code None

abbrev it_is : ℕ × List ℕ → Option (ℕ × List ℕ)
it_is it = Some it

-- one crunched byte more
crunched_one : (mode : Mode) (left : List ℕ) (code : ℕ) (rest more : List ℕ) → first_code mode left ≡ Some (code, rest) → CrunchedFrom (next_mode mode code) rest more → CrunchedFrom mode left (code ∷ more)
unfolding CrunchedFrom
crunched_one mode left code rest more first crunched = (rest, first, crunched)

-- no text that has bytes crunches to nothing, and what it crunches to begins with its first
-- crunched byte
crunched_inverted : (mode : Mode) (left : List ℕ) (code : ℕ) (rest all : List ℕ) → left ≢ [] → first_code mode left ≡ Some (code, rest) → CrunchedFrom mode left all → (more : List ℕ) × CrunchedFrom (next_mode mode code) rest more
unfolding CrunchedFrom
crunched_inverted mode left code rest [] some first nothing = absurd (some nothing)
crunched_inverted mode left code rest (other ∷ more) some first (behind, is, crunched) =
    let same : found other behind ≡ found code rest = sym is ∙ first in
    let codes : other ≡ code = ap code_in same in
    let rests : behind ≡ rest = ap rest_in same in
    (more, subst (λ (c : ℕ). CrunchedFrom (next_mode mode c) rest more) codes (subst (λ (w : List ℕ). CrunchedFrom (next_mode mode other) w more) rests crunched))

pub crunched_more : (text codes : List ℕ) (mode : Mode) (left : List ℕ) (code : ℕ) (rest : List ℕ) → CrunchedSoFar text codes mode left → left ≢ [] → first_code mode left ≡ Some (code, rest) → CrunchedSoFar text (codes ++ code ∷ []) (next_mode mode code) rest
crunched_more text codes mode left code rest so_far some first = record {
  completes = λ more crunched. subst (λ (w : List ℕ). CrunchedFrom Free text w) (sym (append_assoc codes (code ∷ []) more)) (so_far.completes (code ∷ more) (crunched_one mode left code rest more first crunched));
  only = λ all crunched. let before = so_far.only all crunched in crunched_inverted mode left code rest before.0 some first before.1;
}

-- nothing is left
pub crunched_whole : (text codes : List ℕ) (mode : Mode) (left : List ℕ) → CrunchedSoFar text codes mode left → left ≡ [] → CrunchedFrom Free text codes
unfolding CrunchedFrom
crunched_whole text codes mode left so_far none = subst (λ (w : List ℕ). CrunchedFrom Free text w) (append-nil codes) (so_far.completes [] none)

-- what is left begins with no crunched byte
not_crunched : (mode : Mode) (left more : List ℕ) → left ≢ [] → first_code mode left ≡ None → ¬ (CrunchedFrom mode left more)
unfolding CrunchedFrom
not_crunched mode left [] some first nothing = some nothing
not_crunched mode left (code ∷ more) some first (rest, is, crunched) = let same : found code rest ≡ None = sym is ∙ first in absurd cc

pub crunched_never : (text codes : List ℕ) (mode : Mode) (left : List ℕ) → CrunchedSoFar text codes mode left → left ≢ [] → first_code mode left ≡ None → (all : List ℕ) → ¬ (CrunchedFrom Free text all)
crunched_never text codes mode left so_far some first all crunched = let before = so_far.only all crunched in not_crunched mode left before.0 some first before.1

-- if a place is not free the first byte is kept
pub kept_code : (mode : Mode) (byte : ℕ) (rest : List ℕ) → mode ≢ Free → first_code mode (byte ∷ rest) ≡ Some (byte, rest)
kept_code Free byte rest kept = absurd (kept refl)
kept_code Quoted byte rest kept = refl
kept_code Remark byte rest kept = refl
kept_code Data byte rest kept = refl
kept_code QuotedData byte rest kept = refl

-- an empty text crunches to nothing
pub nothing_first : (mode : Mode) (text : List ℕ) → length text < 1 → first_code mode text ≡ None
unfolding free_code
nothing_first Free [] none = refl
nothing_first Quoted [] none = refl
nothing_first Remark [] none = refl
nothing_first Data [] none = refl
nothing_first QuotedData [] none = refl
nothing_first mode (byte ∷ rest) none = absurd (omega arith)

-- at a free place, by the first keyword
pub token_first : (mode : Mode) (text : List ℕ) (code : ℕ) (rest : List ℕ) → mode ≡ Free → 1 ≤ length text → token_from 128 keywords text ≡ Some (code, rest) → first_code mode text ≡ Some (code, rest)
unfolding free_code
token_first mode [] code rest free some is = absurd (omega arith)
token_first mode (byte ∷ others) code rest free some is = subst (λ (m : Mode). first_code m (byte ∷ others) ≡ Some (code, rest)) (sym free) (rw is refl)

-- and by the first byte
pub single_first : (mode : Mode) (byte : ℕ) (rest : List ℕ) (code : Option ℕ) → mode ≡ Free → token_from 128 keywords (byte ∷ rest) ≡ None → code ≡ single_code byte
    → first_code mode (byte ∷ rest) ≡ after_single rest code
unfolding free_code
single_first mode byte rest code free none is = subst (λ (m : Mode). first_code m (byte ∷ rest) ≡ after_single rest code) (sym free) (rw none (ap (λ (o : Option ℕ). after_single rest o) (sym is)))

-- the first crunched byte takes some bytes of the text
pub first_shrinks : (mode : Mode) (text : List ℕ) (code : ℕ) (rest : List ℕ) → text ≢ [] → first_code mode text ≡ Some (code, rest) → length rest < length text
unfolding free_code
first_shrinks mode [] code rest some is = absurd (some refl)
first_shrinks Free (byte ∷ others) code rest some is = by_token (token_from 128 keywords (byte ∷ others)) refl is
  where
    by_single : (single : Option ℕ) → after_single others single ≡ Some (code, rest) → length rest < length (byte ∷ others)
    by_single None none = absurd cc
    by_single (Some c) here = let same : others ≡ rest = ap rest_in here in omega (arith, ap length same)

    by_token : (token : Option (ℕ × List ℕ)) → token_from 128 keywords (byte ∷ others) ≡ token → option_map_or it_is token (after_single others (single_code byte)) ≡ Some (code, rest) → length rest < length (byte ∷ others)
    by_token None none here = by_single (single_code byte) here
    by_token (Some it) at here = token_shrinks (byte ∷ others) code rest (at ∙ here) (omega arith)
first_shrinks Quoted (byte ∷ others) code rest some is = let same : others ≡ rest = ap rest_in is in omega (arith, ap length same)
first_shrinks Remark (byte ∷ others) code rest some is = let same : others ≡ rest = ap rest_in is in omega (arith, ap length same)
first_shrinks Data (byte ∷ others) code rest some is = let same : others ≡ rest = ap rest_in is in omega (arith, ap length same)
first_shrinks QuotedData (byte ∷ others) code rest some is = let same : others ≡ rest = ap rest_in is in omega (arith, ap length same)

-- the same of a text
pub single_at : (mode : Mode) (text : List ℕ) (code : Option ℕ) → mode ≡ Free → 1 ≤ length text → token_from 128 keywords text ≡ None → code ≡ single_code (get_or text 0 0)
    → first_code mode text ≡ after_single (take (length text - 1) (drop 1 text)) code
single_at mode [] code free some none is = absurd (omega arith)
single_at mode (byte ∷ rest) code free some none is =
    single_first mode byte rest code free none is ∙ ap (λ (w : List ℕ). after_single w code) (sym (take_all (length (byte ∷ rest) - 1) rest (omega arith)))

-- a text with a byte is not empty
pub not_empty : (text : List ℕ) → false ≡ (length text == 0) → text ≢ []
not_empty [] test none = absurd cc
not_empty (byte ∷ rest) test none = absurd cc

pub empty : (text : List ℕ) → true ≡ (length text == 0) → text ≡ []
empty [] test = refl
empty (byte ∷ rest) test = let none : length (byte ∷ rest) ≡ 0 = eqb-true _ _ (sym test) in absurd (omega arith)

-- ---- texts that crunch however they are read

all_behind : (word rest : List ℕ) → crunches_anyhow (word ++ rest) ≡ true → crunches_anyhow rest ≡ true
all_behind [] rest all = all
all_behind (byte ∷ word) rest all = all_behind word rest (and_parts _ _ all).1

-- such a text begins with a crunched byte, and what follows is such a text
anyhow_first : (mode : Mode) (byte : ℕ) (others : List ℕ) → crunches_anyhow (byte ∷ others) ≡ true
    → (code : ℕ) × (rest : List ℕ) × (first_code mode (byte ∷ others) ≡ Some (code, rest)) × (crunches_anyhow rest ≡ true)
unfolding free_code
anyhow_first Free byte others all = by_token (token_from 128 keywords (byte ∷ others)) refl
  where
    by_single : (single : Option ℕ) → is_some single ≡ true → (code : ℕ) × (rest : List ℕ) × (after_single others single ≡ Some (code, rest)) × (crunches_anyhow rest ≡ true)
    by_single None never = absurd cc
    by_single (Some code) some = (code, others, refl, (and_parts _ _ all).1)

    by_token : (token : Option (ℕ × List ℕ)) → token_from 128 keywords (byte ∷ others) ≡ token
        → (code : ℕ) × (rest : List ℕ) × (option_map_or it_is token (after_single others (single_code byte)) ≡ Some (code, rest)) × (crunches_anyhow rest ≡ true)
    by_token None none = by_single (single_code byte) (and_parts _ _ all).0
    by_token (Some (code, rest)) at =
        let shown = token_shown (byte ∷ others) code rest at in
        (code, rest, refl, all_behind shown.0 rest (subst (λ (w : List ℕ). crunches_anyhow w ≡ true) shown.2 all))
anyhow_first Quoted byte others all = (byte, others, refl, (and_parts _ _ all).1)
anyhow_first Remark byte others all = (byte, others, refl, (and_parts _ _ all).1)
anyhow_first Data byte others all = (byte, others, refl, (and_parts _ _ all).1)
anyhow_first QuotedData byte others all = (byte, others, refl, (and_parts _ _ all).1)

anyhow_within : (most : ℕ) (mode : Mode) (text : List ℕ) → length text ≤ most → crunches_anyhow text ≡ true → (codes : List ℕ) × CrunchedFrom mode text codes
unfolding CrunchedFrom
anyhow_within most mode [] few all = ([], refl)
anyhow_within zero mode (byte ∷ others) few all = absurd (omega arith)
anyhow_within (suc most) mode (byte ∷ others) few all =
    let (code, rest, first, behind) = anyhow_first mode byte others all in
    let shorter = first_shrinks mode (byte ∷ others) code rest (some_byte byte others) first in
    let (codes, crunched) = anyhow_within most (next_mode mode code) rest (omega (arith, few, shorter)) behind in
    (code ∷ codes, (rest, first, crunched))
  where
    some_byte : (b : ℕ) (bs : List ℕ) → b ∷ bs ≢ []
    some_byte b bs none = absurd cc

-- and so does what is left of a text
pub crunched_anyhow : (text codes : List ℕ) (mode : Mode) (left : List ℕ) → CrunchedSoFar text codes mode left → crunches_anyhow left ≡ true → (more : List ℕ) × CrunchedFrom Free text (codes ++ more)
crunched_anyhow text codes mode left so_far all =
    let (more, crunched) = anyhow_within (length left) mode left (omega arith) all in
    (more, so_far.completes more crunched)

-- ---- expanding

-- what one crunched byte stands for, and the rest
pub expanded_one : (mode : Mode) (codes : List ℕ) (i : ℕ) → i < length codes
    → expanded_from mode (drop i codes) ≡ text_of_code mode (get_or codes i 0) ++ expanded_from (next_mode mode (get_or codes i 0)) (drop (i + 1) codes)
unfolding expanded_from
expanded_one mode codes i within = ap (λ (w : List ℕ). expanded_from mode w) (drop_more codes i 0 within)

pub expanded_none : (mode : Mode) (codes : List ℕ) (i : ℕ) → length codes ≤ i → expanded_from mode (drop i codes) ≡ []
unfolding expanded_from
expanded_none mode codes i past = ap (λ (w : List ℕ). expanded_from mode w) (drop_all i codes past)

-- ---- one way to crunch

-- an empty text begins with no crunched byte
none_first : (mode : Mode) (code : ℕ) (rest : List ℕ) → first_code mode [] ≢ Some (code, rest)
unfolding free_code
none_first Free code rest is = absurd cc
none_first Quoted code rest is = absurd cc
none_first Remark code rest is = absurd cc
none_first Data code rest is = absurd cc
none_first QuotedData code rest is = absurd cc

pub crunched_once : (mode : Mode) (text codes other : List ℕ) → CrunchedFrom mode text codes → CrunchedFrom mode text other → codes ≡ other
unfolding CrunchedFrom
crunched_once mode text [] [] none nothing = refl
crunched_once mode text [] (code ∷ other) none (rest, is, crunched) = absurd (none_first mode code rest (subst (λ (w : List ℕ). first_code mode w ≡ Some (code, rest)) none is))
crunched_once mode text (code ∷ codes) [] (rest, is, crunched) none = absurd (none_first mode code rest (subst (λ (w : List ℕ). first_code mode w ≡ Some (code, rest)) none is))
crunched_once mode text (code ∷ codes) (code' ∷ other) (rest, is, crunched) (rest', is', crunched') =
    let same : found code' rest' ≡ found code rest = sym is' ∙ is in
    let codes_same : code' ≡ code = ap code_in same in
    let rests_same : rest' ≡ rest = ap rest_in same in
    let moved : CrunchedFrom (next_mode mode code) rest other = subst (λ (c : ℕ). CrunchedFrom (next_mode mode c) rest other) codes_same (subst (λ (w : List ℕ). CrunchedFrom (next_mode mode code') w other) rests_same crunched') in
    ap (λ (w : List ℕ). code ∷ w) (crunched_once (next_mode mode code) rest codes other crunched moved) ∙ ap (λ (c : ℕ). c ∷ other) (sym codes_same)
