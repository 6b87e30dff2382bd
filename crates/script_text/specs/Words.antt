-- The words of a line of a script.
use Rattle.std.specs.Prelude.{◌≡◌, ◌≢◌, ◌↔◌, ℕ, zero, suc, ◌+◌, ◌<◌, ◌≤◌, ◌==◌, ◌&&◌, ◌||◌, nat_lt, nat_le, Bool, true, if◌then◌else◌, List, [], ◌∷◌, ◌++◌, length, take, drop, position, All, Option, Some, None, option_and_then, option_map, unwrap_or}
use Rattle.std.specs.List.{list_all, position_or_len}

-- the bytes of a space and of a quote
abbrev pub space : ℕ
space = 32

abbrev pub quote : ℕ
quote = 34

-- a byte can be in a line: one from a space to a tilde
abbrev pub IsPrintable : ℕ → Type 0
IsPrintable b = (32 ≤ b) × (b < 127)

-- whether a byte can be in a line
abbrev pub is_printable : ℕ → Bool
is_printable b = nat_le 32 b && nat_lt b 127

abbrev pub is_quote : ℕ → Bool
is_quote b = b == quote

-- a space or a quote ends a run
abbrev pub ends_run : ℕ → Bool
ends_run b = b == space || b == quote

-- whether a word can end here: before a space or the line's end
abbrev pub ends_word : List ℕ → Bool
ends_word [] = true
ends_word (b ∷ _) = b == space

-- a word and the rest of the line, if the word can end there
abbrev pub word_before : List ℕ → List ℕ → Option (List ℕ × List ℕ)
word_before word rest = if ends_word rest then Some (word, rest) else None

-- the word up to the next quote, and the rest of the line
unfoldable pub quoted_word : List ℕ → Option (List ℕ × List ℕ)
quoted_word text = option_and_then (λ end. word_before (take end text) (drop (end + 1) text)) (position is_quote text)

-- the word up to a space or quote, and the rest of the line
unfoldable pub bare_word : List ℕ → Option (List ℕ × List ℕ)
bare_word text = let end = position_or_len ends_run text in word_before (take end text) (drop end text)

-- a text's first word, and the rest; None if a quote is misplaced
abbrev pub first_word : List ℕ → Option (List ℕ × List ℕ)
first_word [] = None
first_word (b ∷ rest) = if b == quote then quoted_word rest else bare_word (b ∷ rest)

-- the words of a text of at most n bytes, with the spaces skipped
abbrev pub words_within : ℕ → List ℕ → Option (List (List ℕ))
words_within size [] = Some []
words_within zero (b ∷ rest) = None
words_within (suc size) (b ∷ rest) =
    if b == space then words_within size rest
    else option_and_then (λ first. option_map (λ more. first.0 ∷ more) (words_within size first.1)) (first_word (b ∷ rest))

-- the words of a text; None if a quote is misplaced
unfoldable pub split_words : List ℕ → Option (List (List ℕ))
split_words text = words_within (length text) text

-- the words of a text in which no quote is misplaced
abbrev pub words_left : List ℕ → List (List ℕ)
words_left text = unwrap_or (split_words text) []

-- the words of a line; None also if a byte isn't printable
unfoldable pub words_of_line : List ℕ → Option (List (List ℕ))
words_of_line line = if list_all is_printable line then split_words line else None

-- the rule of words: spaces are skipped, and a word is a run of bytes other than spaces and quotes,
-- or the part between two quotes, before a space or the line's end
pub data Spells : List ℕ → List (List ℕ) → Type 0 where
  no_word : Spells [] []
  space_before : {rest : List ℕ} {words : List (List ℕ)} → Spells rest words → Spells (space ∷ rest) words
  run_before : {b : ℕ} {run rest : List ℕ} {words : List (List ℕ)} → All (λ c. (c ≢ space) × (c ≢ quote)) (b ∷ run) → ends_word rest ≡ true → Spells rest words → Spells (b ∷ (run ++ rest)) ((b ∷ run) ∷ words)
  quoted_before : {inside rest : List ℕ} {words : List (List ℕ)} → All (λ c. c ≢ quote) inside → ends_word rest ≡ true → Spells rest words → Spells (quote ∷ (inside ++ quote ∷ rest)) (inside ∷ words)

-- the words of a line of printable bytes are those that the rule gives
abbrev pub HasWordsOfRule : List ℕ → Type 0
HasWordsOfRule line = (words : List (List ℕ)) → (words_of_line line ≡ Some words) ↔ (All IsPrintable line × Spells line words)
