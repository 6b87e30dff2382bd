-- The text of a file of the disk, for people.
use Rattle.std.specs.Prelude.{◌==◌, if◌then◌else◌, List, [], ◌∷◌, ◌++◌, codes}
use Rattle.std.specs.List.{flat_map, onto_first}
use Rattle.d64_image.specs.Disk.{Bytes}
use Rattle.petscii.specs.Spelling.{spelling}
use Rattle.script_text.specs.RawLines.{carriage_return}

-- the lines of a text, each without its carriage return, which the last may lack
abbrev pub lines_of_file : Bytes → List Bytes
lines_of_file [] = []
lines_of_file (byte ∷ rest) = if byte == carriage_return then [] ∷ lines_of_file rest else onto_first byte (lines_of_file rest)

-- a line in text form, with its end
abbrev pub shown_line : Bytes → Bytes
shown_line line = spelling line ++ codes "\n"

-- the text of a file: its lines
unfoldable pub typed_text : Bytes → Bytes
typed_text content = flat_map shown_line (lines_of_file content)
