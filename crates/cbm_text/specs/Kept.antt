-- What a line keeps unchanged, in a text and in a program alike.
use Rattle.std.specs.Prelude.{◌≡◌, ℕ, ◌%◌, ◌<◌, ◌&&◌, ◌⊎◌, Bool, true, false, List, [], ◌∷◌, ◌++◌, length, take, slice_index, ◌==◌, codes}
use Rattle.std.specs.List.{count_by}
use Rattle.script_text.specs.Words.{quote}

-- `:`
abbrev pub colon : ℕ
colon = 58

-- the tokens of `data` and of `rem`
abbrev pub data_token : ℕ
data_token = 0x83

abbrev pub rem_token : ℕ
rem_token = 0x8f

-- What opens a run of bytes that is kept: a quote mark, `rem`, `data`.
pub data Opener : Type 0 where
  QuoteMark : Opener
  RemWord : Opener
  DataWord : Opener

-- An opener's bytes in a text, and its crunched byte in a program.
abbrev pub opening : Opener → List ℕ
opening QuoteMark = codes "\""
opening RemWord = codes "REM"
opening DataWord = codes "DATA"

abbrev pub opener_byte : Opener → ℕ
opener_byte QuoteMark = quote
opener_byte RemWord = rem_token
opener_byte DataWord = data_token

-- How many quote marks there are.
abbrev pub quotes_in : List ℕ → ℕ
quotes_in bytes = count_by (λ byte. byte == quote) bytes

-- Whether a byte ends a run, after these bytes of it: the next quote mark; after `rem` no byte;
-- after `data` a colon with an even number of quote marks before it.
abbrev pub ends : Opener → List ℕ → ℕ → Bool
ends QuoteMark before byte = byte == quote
ends RemWord before byte = false
ends DataWord before byte = byte == colon && quotes_in before % 2 == 0

-- No byte of the run ends it.
abbrev pub HasNoEnd : Opener → List ℕ → Type 0
HasNoEnd opener run = (k : ℕ) → k < length run → ends opener (take k run) (slice_index run k) ≡ false

-- The run ends with the first byte that ends it.
pub record EndsFirst (opener : Opener) (run : List ℕ) : Type 0 where
  pub before : List ℕ
  pub byte : ℕ
  pub is : run ≡ before ++ byte ∷ []
  pub no_end : HasNoEnd opener before
  pub end : ends opener before byte ≡ true

-- The run that is kept behind an opener, and the rest: the run includes the first byte that ends
-- it, or goes to the end.
abbrev pub IsKept : Opener → List ℕ → List ℕ → Type 0
IsKept opener run rest = EndsFirst opener run ⊎ (HasNoEnd opener run × (rest ≡ []))
