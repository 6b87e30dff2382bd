-- How a line is crunched and listed byte by byte: a line is free at its start, and each crunched
-- byte decides how the next place is read. Only contracts of private functions use this; a proof
-- shows that it agrees with the pieces of a line.
use Rattle.std.specs.Prelude.{◌≡◌, ℕ, ◌<◌, ◌||◌, ◌⊎◌, Bool, List, [], ◌∷◌, ◌++◌, length, Option, Some, None, nat_lt, ◌==◌, if◌then◌else◌}
use Rattle.std.specs.Option.{is_some, option_map_or}
use Rattle.std.specs.List.{flat_map, list_all}
use Rattle.cbm_text.specs.declared.mode.Mode.{Mode}
use Rattle.cbm_text.specs.declared.mode.Mode.TheVariants.{Free, Quoted, Remark, Data, QuotedData}
use Rattle.cbm_text.specs.Keywords.{keywords, keyword, token_from}
use Rattle.cbm_text.specs.Kept.{colon, data_token, rem_token}
use Rattle.script_text.specs.Words.{quote}
use Rattle.cbm_text.specs.Pieces.{print_token}
use Rattle.cbm_text.specs.Crunching.{question, pi, Crunched}
use Rattle.cbm_text.specs.Listing.{line_text}
use Rattle.cbm_text.specs.Program.{ProgramLine, Program}

-- How the place behind a crunched byte is read. A quote is kept up to and including the next one,
-- what follows `rem` to the line's end, and what follows `data` up to and including a colon outside
-- quotes.
abbrev pub next_mode : Mode → ℕ → Mode
next_mode Free code = if code == quote then Quoted else if code == rem_token then Remark else if code == data_token then Data else Free
next_mode Quoted code = if code == quote then Free else Quoted
next_mode Remark code = Remark
next_mode Data code = if code == quote then QuotedData else if code == colon then Free else Data
next_mode QuotedData code = if code == quote then Data else QuotedData

-- ---- crunching

-- The crunched byte of a byte at a free place at which no keyword begins: itself, except for `?`
-- and the bytes of tokens.
abbrev pub single_code : ℕ → Option ℕ
single_code byte = if byte == question then Some print_token else if nat_lt byte 128 || byte == pi then Some byte else None

-- The first crunched byte of a text at a free place, and what follows it: the token of the first
-- keyword in the table's order with which the text begins, else that of its first byte.
unfoldable pub free_code : List ℕ → Option (ℕ × List ℕ)
free_code [] = None
free_code (byte ∷ rest) = option_map_or (λ found. Some found) (token_from 128 keywords (byte ∷ rest)) (option_map_or (λ code. Some (code, rest)) (single_code byte) None)

-- The first crunched byte of a text at any place, and what follows it: at a place that is not free
-- the first byte is kept.
abbrev pub first_code : Mode → List ℕ → Option (ℕ × List ℕ)
first_code Free text = free_code text
first_code kept [] = None
first_code kept (byte ∷ rest) = Some (byte, rest)

-- A text that begins at such a place crunches to these bytes.
unfoldable pub CrunchedFrom : Mode → List ℕ → List ℕ → Type 0
CrunchedFrom mode text [] = text ≡ []
CrunchedFrom mode text (code ∷ codes) = (rest : List ℕ) × (first_code mode text ≡ Some (code, rest)) × CrunchedFrom (next_mode mode code) rest codes

-- Whether no byte of a text crunches to nothing at a free place.
abbrev pub crunches_anyhow : List ℕ → Bool
crunches_anyhow text = list_all (λ byte. is_some (single_code byte)) text

-- A text crunches to these bytes; or it crunches to more than n bytes, and these are the first of
-- them and more than n too.
pub record CrunchesUpTo (most : ℕ) (text codes : List ℕ) : Type 0 where
  pub more : List ℕ
  pub crunched : Crunched text (codes ++ more)
  pub whole : (more ≡ []) ⊎ (most < length codes)

-- ---- listing

-- What a crunched byte stands for: at a free place the keyword of a token, else itself.
abbrev pub text_of_code : Mode → ℕ → List ℕ
text_of_code Free code = option_map_or (λ word. word) (keyword code) (code ∷ [])
text_of_code kept code = code ∷ []

-- What crunched bytes from such a place on stand for.
unfoldable pub expanded_from : Mode → List ℕ → List ℕ
expanded_from mode [] = []
expanded_from mode (code ∷ rest) = text_of_code mode code ++ expanded_from (next_mode mode code) rest

-- The bytes that a line's crunched bytes stand for.
abbrev pub expanded_bytes : List ℕ → List ℕ
expanded_bytes bytes = expanded_from Free bytes

-- A line as text, and a program.
abbrev pub line_listing : ProgramLine → List ℕ
line_listing line = line_text line.number (expanded_bytes line.bytes)

unfoldable pub listing : Program → List ℕ
listing program = flat_map line_listing program
