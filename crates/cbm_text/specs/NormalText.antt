-- The normal spelling of a BASIC text.
use Rattle.std.specs.Prelude.{◌≡◌, ℕ, ◌⊎◌, true, false, List, [], ◌∷◌, ◌++◌}
use Rattle.petscii.specs.TextForm.{IsTextOf}
use Rattle.script_text.specs.RawLines.{lines_of, text_of, is_skipped}
use Rattle.cbm_text.specs.Listing.{line_text}
use Rattle.cbm_text.specs.TextLine.{line_number, rest_of}

-- The raw lines of a text in normal spelling: nothing for a line that is skipped, and for each
-- other one its number without leading zeros, a space, the spelling of the bytes of the rest, and
-- LF.
unfoldable pub AreNormal : List (List ℕ) → List ℕ → Type 0
AreNormal [] normal = normal ≡ []
AreNormal (raw ∷ raws) normal = ((is_skipped (text_of raw) ≡ true) × AreNormal raws normal)
    ⊎ ((is_skipped (text_of raw) ≡ false) × (bytes others : List ℕ) × IsTextOf bytes (rest_of (text_of raw)) × AreNormal raws others
    × (normal ≡ line_text (line_number (text_of raw)) bytes ++ others))

-- The text in normal spelling.
abbrev pub IsNormalOf : List ℕ → List ℕ → Type 0
IsNormalOf text normal = AreNormal (lines_of text) normal
