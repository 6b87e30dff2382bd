-- The table of keywords, row by row.
use Rattle.std.proofs.Common.{◌≡◌, ℕ, suc, ◌+◌, ◌-◌, ◌<◌, ◌≤◌, Bool, true, false, cond, List, [], ◌∷◌, ◌++◌, length, drop, get_or, Option, Some, None, length-drop, refl, sym, ◌∙◌, ap, subst, arith}
use Rattle.std.proofs.lemmas.Option.{slice_get_past}
use Rattle.std.proofs.lemmas.Bool.{leb-true, leb-false, ltb-true, and_parts, eqb-false, ne_eqb}
use Rattle.std.proofs.lemmas.Bool.Decides.{Decides-eqb}
use Rattle.std.proofs.lemmas.Slice.Eq.{starts_is}
use Rattle.std.specs.Prelude.{slice_get, nat_le, nat_lt, nat_eq, ◌==◌}
use Rattle.std.specs.List.{starts_with, list_all}
use Rattle.std.specs.Option.{option_map_or}
use Rattle.cbm_text.specs.Keywords.{keywords, keyword, token_from, tokens_with}

-- a token, and what follows it
abbrev pub found : ℕ → List ℕ → Option (ℕ × List ℕ)
found token rest = Some (token, rest)

abbrev pub code_in : Option (ℕ × List ℕ) → ℕ
code_in None = 0
code_in (Some it) = it.0

abbrev pub rest_in : Option (ℕ × List ℕ) → List ℕ
rest_in None = []
rest_in (Some it) = it.1

-- how many there are
pub rows : length keywords ≡ 76
unfolding keywords
rows = refl

-- the first and the last token
pub keyword_past : (token : ℕ) → 204 ≤ token → keyword token ≡ None
unfolding keyword
keyword_past token high = of_test (nat_le 128 token)
  where
    of_test : (b : Bool) → cond b (slice_get keywords (token - 128)) None ≡ None
    of_test true = slice_get_past keywords (token - 128) (omega (arith, rows))
    of_test false = refl

pub keyword_below : (token : ℕ) → token < 128 → keyword token ≡ None
unfolding keyword
keyword_below token low = of_test (nat_le 128 token) refl
  where
    of_test : (b : Bool) → nat_le 128 token ≡ b → cond b (slice_get keywords (token - 128)) None ≡ None
    of_test true at = let high : 128 ≤ token = leb-true 128 token at in absurd (omega arith)
    of_test false at = refl

-- no keyword is empty
some_bytes : list_all (λ word. nat_lt 0 (length word)) keywords ≡ true
unfolding keywords
some_bytes = refl

-- a token takes some bytes of the text
shrinks_from : (words : List (List ℕ)) (token : ℕ) (text : List ℕ) (code : ℕ) (rest : List ℕ) → list_all (λ word. nat_lt 0 (length word)) words ≡ true
    → token_from token words text ≡ Some (code, rest) → 0 < length text → length rest < length text
shrinks_from [] token text code rest somes found some = absurd cc
shrinks_from (word ∷ words) token text code rest somes found some =
    of_test (starts_with nat_eq text word) (λ later. shrinks_from words (token + 1) text code rest (and_parts _ _ somes).1 later some) found
  where
    of_test : (b : Bool) → (token_from (token + 1) words text ≡ Some (code, rest) → length rest < length text) → cond b (Some (token, drop (length word) text)) (token_from (token + 1) words text) ≡ Some (code, rest)
        → length rest < length text
    of_test true later here =
        let long : 0 < length word = ltb-true 0 (length word) (and_parts _ _ somes).0 in
        let is : drop (length word) text ≡ rest = ap rest_in here in
        omega (arith, length-drop (length word) text, ap length is)
    of_test false later there = later there

pub token_shrinks : (text : List ℕ) (code : ℕ) (rest : List ℕ) → token_from 128 keywords text ≡ Some (code, rest) → 0 < length text → length rest < length text
token_shrinks text code rest found some = shrinks_from keywords 128 text code rest some_bytes found some

-- ---- the keyword of a token

-- the text begins with the keyword of a row of the table
pub record BeginsWithRow (words : List (List ℕ)) (token code : ℕ) (text rest : List ℕ) : Type 0 where
  pub row : ℕ
  pub word : List ℕ
  pub at : code ≡ token + row
  pub is : slice_get words row ≡ Some word
  pub joined : text ≡ word ++ rest

-- one row further down
next_row : (first : List ℕ) (words : List (List ℕ)) (token code : ℕ) (text rest : List ℕ) → BeginsWithRow words (token + 1) code text rest → BeginsWithRow (first ∷ words) token code text rest
next_row first words token code text rest begins = record {
  row = begins.row + 1;
  word = begins.word;
  at = omega (arith, begins.at);
  is = further words begins.row begins.word begins.is;
  joined = begins.joined;
}
  where
    further : (ws : List (List ℕ)) (k : ℕ) (w : List ℕ) → slice_get ws k ≡ Some w → slice_get (first ∷ ws) (k + 1) ≡ Some w
    further ws k w is = let one : suc k ≡ k + 1 = omega arith in subst (λ (n : ℕ). slice_get (first ∷ ws) n ≡ Some w) one is

-- a token that was found is that of a row
pub row_of : (words : List (List ℕ)) (token : ℕ) (text : List ℕ) (code : ℕ) (rest : List ℕ) → token_from token words text ≡ Some (code, rest) → BeginsWithRow words token code text rest
row_of [] token text code rest is = absurd cc
row_of (word ∷ words) token text code rest is =
    of_test (starts_with nat_eq text word) refl (λ later. row_of words (token + 1) text code rest later) is
  where
    of_test : (b : Bool) → starts_with nat_eq text word ≡ b → (token_from (token + 1) words text ≡ Some (code, rest) → BeginsWithRow words (token + 1) code text rest)
        → cond b (Some (token, drop (length word) text)) (token_from (token + 1) words text) ≡ Some (code, rest) → BeginsWithRow (word ∷ words) token code text rest
    of_test true at later here = record {
      row = 0;
      word = word;
      at = omega (arith, ap code_in here);
      is = refl;
      joined = (starts_is Decides-eqb text word true (sym at)).0 refl ∙ ap (λ (w : List ℕ). word ++ w) (ap rest_in here);
    }
    of_test false at later there = next_row word words token code text rest (later there)

-- and stands for its keyword
pub token_shown : (text : List ℕ) (code : ℕ) (rest : List ℕ) → token_from 128 keywords text ≡ Some (code, rest) → (word : List ℕ) × (keyword code ≡ Some word) × (text ≡ word ++ rest)
unfolding keyword
token_shown text code rest is =
    let begins = row_of keywords 128 text code rest is in
    let at : code - 128 ≡ begins.row = omega (arith, begins.at) in
    let high : 128 ≤ code = omega (arith, begins.at) in
    let row : slice_get keywords (code - 128) ≡ Some begins.word = ap (λ (k : ℕ). slice_get keywords k) at ∙ begins.is in
    let known : keyword code ≡ Some begins.word = of_test (nat_le 128 code) refl high begins.word row in
    (begins.word, known, begins.joined)
  where
    of_test : (b : Bool) → nat_le 128 code ≡ b → 128 ≤ code → (word : List ℕ) → slice_get keywords (code - 128) ≡ Some word → cond b (slice_get keywords (code - 128)) None ≡ Some word
    of_test true at high word row = row
    of_test false at high word row = let low : code < 128 = leb-false 128 code at in absurd (omega arith)

-- ---- the keywords that begin with a byte

-- the first of these tokens whose keyword the text begins with
abbrev pub first_of : List ℕ → List ℕ → Option (ℕ × List ℕ)
first_of [] text = None
first_of (token ∷ tokens) text =
    option_map_or (λ (word : List ℕ). cond (starts_with nat_eq text word) (Some (token, drop (length word) text)) (first_of tokens text)) (keyword token) (first_of tokens text)

-- these are the keywords of the tokens from one on
abbrev AreWordsFrom : ℕ → List (List ℕ) → Type 0
AreWordsFrom token words = (k code : ℕ) (word : List ℕ) → code ≡ token + k → slice_get words k ≡ Some word → keyword code ≡ Some word

-- a text begins with no keyword that begins with another byte
first_among : (words : List (List ℕ)) (token first : ℕ) (rest : List ℕ) → AreWordsFrom token words → list_all (λ word. nat_lt 0 (length word)) words ≡ true
    → token_from token words (first ∷ rest) ≡ first_of (tokens_with first token words) (first ∷ rest)
first_among [] token first rest are somes = refl
first_among ([] ∷ words) token first rest are somes = absurd cc
first_among ((byte ∷ bytes) ∷ words) token first rest are somes =
    of_test (first == byte) refl (are 0 token (byte ∷ bytes) (omega arith) refl) (first_among words (token + 1) first rest behind (and_parts _ _ somes).1)
  where
    behind : AreWordsFrom (token + 1) words
    behind k code word at is = are (suc k) code word (omega (arith, at)) is

    of_test : (b : Bool) → (first == byte) ≡ b → keyword token ≡ Some (byte ∷ bytes) → token_from (token + 1) words (first ∷ rest) ≡ first_of (tokens_with first (token + 1) words) (first ∷ rest)
        → token_from token ((byte ∷ bytes) ∷ words) (first ∷ rest)
        ≡ first_of (cond b (token ∷ tokens_with first (token + 1) words) (tokens_with first (token + 1) words)) (first ∷ rest)
    of_test true at known later =
        rw known (ap (λ (o : Option (ℕ × List ℕ)). cond (starts_with nat_eq (first ∷ rest) (byte ∷ bytes)) (found token (drop (length (byte ∷ bytes)) (first ∷ rest))) o) later)
    of_test false at known later =
        let other : nat_eq byte first ≡ false = ne_eqb byte first (λ same. eqb-false first byte at (sym same)) in
        rw other later

-- the table's keywords are those of the tokens from $80 on
keyword_words : AreWordsFrom 128 keywords
unfolding keyword
keyword_words k code word at is = of_test (nat_le 128 code) refl
  where
    row : slice_get keywords (code - 128) ≡ Some word
    row = subst (λ (n : ℕ). slice_get keywords n ≡ Some word) (omega (arith, at)) is

    of_test : (b : Bool) → nat_le 128 code ≡ b → cond b (slice_get keywords (code - 128)) None ≡ Some word
    of_test true high = row
    of_test false high = let low : code < 128 = leb-false 128 code high in absurd (omega (arith, at))

-- so only the keywords that begin with a text's first byte can be its first token
pub token_by_first : (text : List ℕ) (first : ℕ) → 1 ≤ length text → first ≡ get_or text 0 0 → token_from 128 keywords text ≡ first_of (tokens_with first 128 keywords) text
token_by_first [] first some is = absurd (omega arith)
token_by_first (byte ∷ rest) first some is = subst (λ (n : ℕ). token_from 128 keywords (byte ∷ rest) ≡ first_of (tokens_with n 128 keywords) (byte ∷ rest)) (sym is) (first_among keywords 128 byte rest keyword_words some_bytes)

-- an empty text begins with no keyword
pub nothing_begins : (text : List ℕ) → length text < 1 → token_from 128 keywords text ≡ None
unfolding keywords
nothing_begins [] none = refl
nothing_begins (byte ∷ rest) none = absurd (omega arith)
