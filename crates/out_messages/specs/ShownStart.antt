-- The first characters of a line as it is shown.
use Rattle.std.specs.Prelude.{ℕ, ◌-◌, ◌==◌, Bool, not, if◌then◌else◌, List, [], ◌∷◌, take}
use Rattle.std.specs.Int.{is_in_range}
use Rattle.host_storage.specs.Shown.{shown_name}

-- a character of UTF-8 begins with this byte
abbrev pub begins_character : ℕ → Bool
begins_character byte = not (is_in_range 0x80 0xBF byte)

-- the first characters of a text, up to this count
unfoldable pub first_characters : ℕ → List ℕ → List ℕ
first_characters count [] = []
first_characters count (byte ∷ rest) =
    if begins_character byte then (if count == 0 then [] else byte ∷ first_characters (count - 1) rest) else byte ∷ first_characters count rest

-- the most characters of a line that are shown, and the most bytes that they have
abbrev pub most_characters : ℕ
most_characters = 200

abbrev pub most_shown_bytes : ℕ
most_shown_bytes = 800

-- the first characters of a line as it is shown
abbrev pub shown_start : List ℕ → List ℕ
shown_start text = first_characters most_characters (shown_name (take most_shown_bytes text))
