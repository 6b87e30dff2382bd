-- The parts of a line that an explanation needs.
use Rattle.std.specs.Prelude.{ℕ, List, [], ◌∷◌, length, drop, if◌then◌else◌, unwrap_or}
use Rattle.d64_image.specs.Disk.{Bytes}
use Rattle.script_text.specs.RawLines.{is_too_long, text_of}
use Rattle.script_text.specs.Words.{words_of_line}

-- the command and the arguments of a line; a missing one is empty
pub record LineParts : Type 0 where
  pub command : Bytes
  pub first : Bytes
  pub second : Bytes
  pub third : Bytes
  pub fourth : Bytes
  pub count : ℕ

-- the first of some arguments; empty if there is none
abbrev pub first_of : List Bytes → Bytes
first_of [] = []
first_of (word ∷ words) = word

-- the parts of a line with these arguments
abbrev pub parts_of_words : List Bytes → LineParts
parts_of_words words = record {
  command = first_of words;
  first = first_of (drop 1 words);
  second = first_of (drop 1 (drop 1 words));
  third = first_of (drop 1 (drop 1 (drop 1 words)));
  fourth = first_of (drop 1 (drop 1 (drop 1 (drop 1 words))));
  count = length words;
}

-- the parts of a text: nothing if it has a byte or a quote that no line has
abbrev pub parts_of_text : Bytes → LineParts
parts_of_text text = parts_of_words (unwrap_or (words_of_line text) [])

-- the parts of a line: nothing if it is too long
abbrev pub parts_of_line : Bytes → LineParts
parts_of_line line = if is_too_long line then parts_of_words [] else parts_of_text (text_of line)
