-- The lines of a BASIC text and their numbers.
use Rattle.std.specs.Prelude.{ℕ, ◌^◌, Bool, not, nat_lt, Option, Some, None, List, [], ◌∷◌, drop, ◌==◌, if◌then◌else◌}
use Rattle.std.specs.List.{before_first, position_or_len}
use Rattle.std.specs.Char.{is_ascii_digit}
use Rattle.std.specs.Str.Parse.{digits_value}
use Rattle.script_text.specs.Words.{space}

-- the bytes that are no spaces, and those that are no digits
abbrev pub is_no_space : ℕ → Bool
is_no_space byte = not (byte == space)

abbrev pub is_no_digit : ℕ → Bool
is_no_digit byte = not (is_ascii_digit byte)

-- A text line without the spaces at its beginning.
unfoldable pub unspaced_line : List ℕ → List ℕ
unspaced_line line = drop (position_or_len is_no_space line) line

-- The digits of a line's number: the longest run of digits behind its spaces.
unfoldable pub number_digits : List ℕ → List ℕ
number_digits line = before_first is_no_digit (unspaced_line line)

-- The number of a text line, which its digits spell.
abbrev pub line_number : List ℕ → ℕ
line_number line = digits_value 10 (number_digits line)

-- The number that digits spell, if it fits in two bytes.
unfoldable pub fitting_number : List ℕ → Option ℕ
fitting_number digits = if nat_lt (digits_value 10 digits) (2 ^ 16) then Some (digits_value 10 digits) else None

-- A text without the one space that may be at its beginning.
abbrev pub without_space : List ℕ → List ℕ
without_space [] = []
without_space (byte ∷ rest) = if byte == space then rest else byte ∷ rest

-- What follows the number of a text line and one space.
unfoldable pub rest_of : List ℕ → List ℕ
rest_of line = without_space (drop (position_or_len is_no_digit (unspaced_line line)) (unspaced_line line))
