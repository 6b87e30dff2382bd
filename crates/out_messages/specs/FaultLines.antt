-- The lines on standard error of files that cannot be read or written, and what people are shown of
-- a file that is not a dump.
use Rattle.std.specs.Prelude.{ℕ, List, [], ◌++◌, length, codes, decimal, if◌then◌else◌}
use Rattle.std.specs.Option.{option_map_or}
use Rattle.host_storage.specs.Shown.{shown_name}
use Rattle.out_messages.specs.Guesses.{guess_of, guess_text}
use Rattle.out_messages.specs.Words.{counted_text}
use Rattle.out_messages.specs.declared.guess.Guess.{Guess}
use Rattle.d64_g64.specs.File.{begins_as_g64}

-- a line about a file, as the program reports it
unfoldable pub line_about : List ℕ → List ℕ → List ℕ
line_about name text = codes "d64sh: " ++ (shown_name name ++ (codes ": " ++ (text ++ codes "\n")))

-- the line of a file that cannot be read
abbrev pub unread_line : List ℕ → List ℕ
unread_line name = line_about name (codes "cannot be read")

-- the line of a file that cannot be written
abbrev pub unwritten_line : List ℕ → List ℕ
unwritten_line name = line_about name (codes "cannot be written")

-- the line of a file or folder that exists before anything is written
abbrev pub present_line : List ℕ → List ℕ
present_line name = line_about name (codes "is there already")

-- the line of a folder that is skipped since it exists
abbrev pub skipped_line : List ℕ → List ℕ
skipped_line name = line_about name (codes "skipped")

-- the line of an image whose files have too many bytes to write all of them
abbrev pub too_much_line : List ℕ → List ℕ
too_much_line name = line_about name (codes "too much")

-- a guess in brackets
abbrev pub in_brackets : Guess → List ℕ
in_brackets guess = codes " (" ++ (guess_text guess ++ codes ")")

-- what a file that is not a dump seems to be, if that is known
abbrev pub seeming_text : List ℕ → List ℕ
seeming_text bytes = option_map_or (λ guess. codes "not read: " ++ guess_text guess) (guess_of bytes) (codes "not a disk image")

-- what people are shown of such a file: what it seems to be, and how many bytes it has
abbrev pub no_dump_text : List ℕ → List ℕ
no_dump_text bytes = seeming_text bytes ++ (codes " (" ++ (counted_text (length bytes) (codes "byte") ++ codes ")"))

-- a length that no dump has, and what the file seems to be, if that is known
abbrev pub wrong_length_text : List ℕ → List ℕ
wrong_length_text bytes = codes "wrong length " ++ (decimal (length bytes) ++ option_map_or in_brackets (guess_of bytes) [])

-- why a file with these bytes is not a dump: it is a bad G64, or no dump has its length
abbrev pub no_dump_reason : List ℕ → List ℕ
no_dump_reason bytes = if begins_as_g64 bytes then codes "bad G64" else wrong_length_text bytes

-- the line of a file with these bytes, which is not a dump
abbrev pub wrong_length_line : List ℕ → List ℕ → List ℕ
wrong_length_line name bytes = line_about name (no_dump_reason bytes)
