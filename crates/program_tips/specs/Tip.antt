-- The tip: what was probably meant, as it is typed.
use Rattle.std.specs.Prelude.{◌==◌, ◌||◌, ◌&&◌, not, Bool, ℕ, zero, suc, length, List, [], ◌∷◌, ◌++◌, if◌then◌else◌, codes}
use Rattle.std.specs.Char.{encode_utf8, is_ascii_alphanumeric}
use Rattle.std.specs.List.{list_any, flat_map, before_first}
use Rattle.std.specs.Str.{chars}
use Rattle.program_tips.specs.Meant.{Text, is_option}

-- a byte has no meaning of its own in a line for a shell of the host
unfoldable pub is_bare : ℕ → Bool
is_bare byte = is_ascii_alphanumeric byte || list_any (λ bare. bare == byte) (codes "./_-+,")

-- a byte of an argument has one
abbrev pub has_meaning : Text → Bool
has_meaning argument = list_any (λ byte. not (is_bare byte)) argument

-- an argument is between apostrophes there
unfoldable pub is_quoted : Text → Bool
is_quoted argument = length argument == 0 || has_meaning argument

-- a character as it is typed between apostrophes: one of them ends the text before it, and begins another after it
abbrev pub typed : ℕ → Text
typed character = if character == 39 then codes "'\\''" else encode_utf8 character

-- the first characters, this many at most, and `..` if there are more
abbrev pub cut_to : ℕ → List ℕ → Text
cut_to most [] = []
cut_to zero (character ∷ more) = codes ".."
cut_to (suc most) (character ∷ more) = typed character ++ cut_to most more

-- the first 64 characters of an argument, and `..` if it has more
unfoldable pub cut : Text → Text
cut argument = cut_to 64 (chars argument)

-- an argument as it is typed for a shell of the host
unfoldable pub shell_argument : Text → Text
shell_argument argument = if is_quoted argument then codes "'" ++ (cut argument ++ codes "'") else cut argument

-- a line, or `list` if it is empty
abbrev pub or_list : Text → Text
or_list line = if length line == 0 then codes "list" else line

-- an argument has a byte
abbrev pub has_byte : ℕ → Text → Bool
has_byte byte argument = list_any (λ other. other == byte) argument

-- an argument is in quotes in a line: it is empty or has a space, and no quote
unfoldable pub needs_quotes : Text → Bool
needs_quotes argument = (length argument == 0 || has_byte 32 argument) && not (has_byte 34 argument)

-- an argument that is not the first in its line, and the space before it
unfoldable pub line_argument : Text → Text
line_argument argument = codes " " ++ (if needs_quotes argument then codes "\"" ++ (argument ++ codes "\"") else argument)

-- the arguments after the first
abbrev pub line_arguments : List Text → Text
line_arguments arguments = flat_map line_argument arguments

-- the line that arguments make
abbrev pub line_of_arguments : List Text → Text
line_of_arguments [] = []
line_of_arguments (first ∷ rest) = first ++ line_arguments rest

-- the line that arguments make up to the first that is an option
abbrev pub meant_line : List Text → Text
meant_line arguments = or_list (line_of_arguments (before_first is_option arguments))

-- what a tip begins with
unfoldable pub tip_start : Text
tip_start = codes "\n\n  tip: to run a line on an image: d64sh shell "

-- the shell on an image, as it is typed
unfoldable pub shell_text : Text → Text
shell_text image = tip_start ++ shell_argument image

-- the line, behind it
unfoldable pub dash_c_text : Text → Text
dash_c_text line = codes " -c " ++ shell_argument line

-- the tip to run a line on an image
unfoldable pub tip_about : Text → Text → Text
tip_about image line = shell_text image ++ dash_c_text line

-- the tip about an image, and the arguments after it
abbrev pub tip_text : Text → List Text → Text
tip_text image rest = tip_about image (meant_line rest)
