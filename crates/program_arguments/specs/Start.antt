-- The address that `--start` gives.
use Rattle.std.specs.Prelude.{◌≡◌, ◌≤◌, ℕ, List, length, Option, Some, None}
use Rattle.std.specs.Str.Parse.{IsNumeral, digits_value}

-- one to four hexadecimal digits, in either case, and nothing else
abbrev pub IsAddress : List ℕ → Type 0
IsAddress hex = IsNumeral 16 hex × (length hex ≤ 4)

-- the number that these digits write
abbrev pub address_of : List ℕ → ℕ
address_of hex = digits_value 16 hex

-- the start that the option gives: the address that is written, or 2,049 without the option
abbrev pub IsStartBy : Option (List ℕ) → ℕ → Type 0
IsStartBy None start = start ≡ 2049
IsStartBy (Some hex) start = IsAddress hex × (start ≡ address_of hex)

-- the text that is given is no address
abbrev pub HasNoAddress : Option (List ℕ) → Type 0
HasNoAddress None = ⊥
HasNoAddress (Some hex) = ¬ IsAddress hex
