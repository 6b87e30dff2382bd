-- How bytes of PETSCII are spelled in a text.
use Rattle.std.specs.Prelude.{ℕ, ◌+◌, ◌-◌, ◌/◌, ◌%◌, ◌&&◌, List, [], ◌∷◌, ◌++◌, Option, Some, None, nat_le, if◌then◌else◌, slice_index, codes}
use Rattle.std.specs.Option.{option_map_or}
use Rattle.std.specs.List.{flat_map}
use Rattle.petscii.specs.ControlNames.{control_name}

-- The bytes that have a character: the first and the last byte of a range, and the character of the
-- first. The others follow on.
unfoldable pub character_ranges : List (ℕ × ℕ × ℕ)
character_ranges =
    (0x20, 0x40, slice_index (codes " ") 0)
    ∷ (0x41, 0x5a, slice_index (codes "a") 0)
    ∷ (0x5b, 0x5f, slice_index (codes "[") 0)
    ∷ (0xc1, 0xda, slice_index (codes "A") 0)
    ∷ (0xff, 0xff, slice_index (codes "~") 0)
    ∷ []

-- The character of a byte, by the first range that has it.
abbrev pub character_in : List (ℕ × ℕ × ℕ) → ℕ → Option ℕ
character_in [] b = None
character_in (range ∷ ranges) b = if nat_le range.0 b && nat_le b range.1 then Some (range.2 + (b - range.0)) else character_in ranges b

-- The character of a byte.
unfoldable pub character : ℕ → Option ℕ
character b = character_in character_ranges b

-- A name between braces.
abbrev pub braced_name : List ℕ → List ℕ
braced_name name = codes "{" ++ name ++ codes "}"

-- The digit of a number below 16.
unfoldable pub hex_digit : ℕ → ℕ
hex_digit n = slice_index (codes "0123456789abcdef") n

-- `$`
abbrev pub dollar : ℕ
dollar = 36

-- A byte's name by its value: `$` and two hexadecimal digits.
abbrev pub hex_name : ℕ → List ℕ
hex_name b = dollar ∷ hex_digit (b / 16) ∷ hex_digit (b % 16) ∷ []

-- A byte's text: its character, else its control code's name, else its value.
unfoldable pub spell : ℕ → List ℕ
spell b = option_map_or (λ c. c ∷ []) (character b) (braced_name (option_map_or (λ name. name) (control_name b) (hex_name b)))

-- The text of bytes.
unfoldable pub spelling : List ℕ → List ℕ
spelling bytes = flat_map spell bytes
