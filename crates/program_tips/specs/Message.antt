-- The message of an error of `clap`, and the tip after it.
use Rattle.std.specs.Prelude.{List, [], ◌∷◌, ◌++◌, Option, Some, None, bytes_eq, codes, drop, if◌then◌else◌, length, take}
use Rattle.std.specs.Str.Lines.{lines}
use Rattle.program_tips.specs.Meant.{MeantParts, Text}
use Rattle.program_tips.specs.Tip.{tip_text}

-- the first of these lines, or no text if there is none
abbrev pub first_or_empty : List Text → Text
first_or_empty [] = []
first_or_empty (line ∷ more) = line

abbrev pub message_line : Text → Text
message_line text = first_or_empty (lines text)

abbrev pub label : Text
label = codes "error: "

-- a line without the label with which it begins, if it does
unfoldable pub without_label : Text → Text
without_label line = if bytes_eq (take (length label) line) label then drop (length label) line else line

-- the first line of the error's text, after the label
abbrev pub message_of : Text → Text
message_of text = without_label (message_line text)

-- the message, and the tip after it about what was probably meant
abbrev pub message_with : Text → Option MeantParts → Text
message_with text None = message_of text
message_with text (Some parts) = message_of text ++ tip_text parts.0 parts.1
