-- The lines of a script: how it is cut, and which part of a line is its text.
use Rattle.std.specs.Prelude.{ℕ, Bool, true, not, List, [], ◌∷◌, length, filter, find, nat_lt, ◌==◌, if◌then◌else◌}
use Rattle.std.specs.List.{onto_first}
use Rattle.std.specs.Option.{option_map_or}
use Rattle.std.specs.Io.BufRead.{ends_with_byte, strip_last}

-- what ends a line, and what can come right before it
abbrev pub line_feed : ℕ
line_feed = 10

abbrev pub carriage_return : ℕ
carriage_return = 13

-- the raw lines of a script, each with its LF, which the last may lack
unfoldable pub lines_of : List ℕ → List (List ℕ)
lines_of [] = []
lines_of (byte ∷ rest) = if byte == line_feed then (byte ∷ []) ∷ lines_of rest else onto_first byte (lines_of rest)

-- whether the line has its LF
abbrev pub is_ended : List ℕ → Bool
is_ended line = ends_with_byte line_feed line

-- the lines of a script that have an LF
abbrev pub ended_lines : List ℕ → List (List ℕ)
ended_lines script = filter is_ended (lines_of script)

-- the line before its LF, or all of it
abbrev pub before_end : List ℕ → List ℕ
before_end line = strip_last line_feed line

-- the line without its LF and one CR right before it
abbrev pub text_of : List ℕ → List ℕ
text_of line = if is_ended line then strip_last carriage_return (before_end line) else line

-- the most bytes of a line before its LF
abbrev pub line_limit : ℕ
line_limit = 1024

-- whether a line has more, a CR included
abbrev pub is_too_long : List ℕ → Bool
is_too_long line = nat_lt line_limit (length (before_end line))

-- whether a text has no command: only spaces, or a `;` first after them
abbrev pub is_skipped : List ℕ → Bool
is_skipped text = option_map_or (λ byte. byte == 59) (find (λ byte. not (byte == 32)) text) true
