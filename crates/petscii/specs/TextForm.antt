-- Which texts stand for which bytes.
use Rattle.std.specs.Prelude.{◌≡◌, ◌≢◌, ℕ, ◌<◌, ◌⊎◌, List, [], ◌∷◌, ◌++◌, Some, Contains}
use Rattle.std.specs.Str.{str_to_ascii_lowercase}
use Rattle.petscii.specs.ControlNames.{control_name}
use Rattle.petscii.specs.Spelling.{braced_name, hex_name, spell}

-- `{`
abbrev pub open_brace : ℕ
open_brace = 123

-- `}`
abbrev pub close_brace : ℕ
close_brace = 125

-- The unit is a `{` up to the next `}`.
pub record IsBraced (unit : List ℕ) : Type 0 where
  pub name : List ℕ
  pub is : unit ≡ braced_name name
  pub next : ¬ (Contains name close_brace)

-- The unit is one byte other than a `{`.
pub record IsOneByte (unit : List ℕ) : Type 0 where
  pub byte : ℕ
  pub is : unit ≡ byte ∷ []
  pub no_brace : byte ≢ open_brace

-- A unit of a text: one byte, or a `{` up to the next `}`.
abbrev pub IsUnit : List ℕ → Type 0
IsUnit unit = IsOneByte unit ⊎ IsBraced unit

-- A unit is accepted for a byte: its spelling, or in braces its spelling or value, in either case
-- of letters.
unfoldable pub IsAccepted : ℕ → List ℕ → Type 0
IsAccepted b unit = (b < 256) × ((unit ≡ spell b)
    ⊎ (IsBraced unit × ((str_to_ascii_lowercase unit ≡ spell b) ⊎ (str_to_ascii_lowercase unit ≡ braced_name (hex_name b)))))

-- A name in small letters names the byte: by its control code, or by its value.
unfoldable pub Names : List ℕ → ℕ → Type 0
Names name b = (b < 256) × ((control_name b ≡ Some name) ⊎ (hex_name b ≡ name))

-- The text begins with a unit for a byte, then comes the rest.
pub record BeginsWith (text : List ℕ) (b : ℕ) (rest : List ℕ) : Type 0 where
  pub unit : List ℕ
  pub is_unit : IsUnit unit
  pub accepted : IsAccepted b unit
  pub joined : text ≡ unit ++ rest

-- The text stands for the bytes, unit by unit.
unfoldable pub IsTextOf : List ℕ → List ℕ → Type 0
IsTextOf [] text = text ≡ []
IsTextOf (b ∷ bytes) text = (rest : List ℕ) × BeginsWith text b rest × IsTextOf bytes rest

-- The text stands for at most one list of bytes.
abbrev pub HasOneReading : List ℕ → Type 0
HasOneReading text = (a b : List ℕ) → IsTextOf a text → IsTextOf b text → a ≡ b
