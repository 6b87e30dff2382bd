-- The sixteen lines that show a block.
use Rattle.std.specs.Prelude.{ℕ, ◌+◌, ◌*◌, ◌/◌, ◌%◌, nat_lt, if◌then◌else◌, List, [], ◌∷◌, ◌++◌, codes, slice_range}
use Rattle.std.specs.List.{flat_map, range_with_len}

-- a hexadecimal digit, in small letters
abbrev pub dump_digit : ℕ → ℕ
dump_digit n = if nat_lt n 10 then 48 + n else 87 + n

-- a byte in two hexadecimal digits
abbrev pub hex_digits : ℕ → List ℕ
hex_digits byte = dump_digit (byte / 16) ∷ dump_digit (byte % 16) ∷ []

-- the line of sixteen bytes at an offset
abbrev pub dump_line : ℕ → List ℕ → List ℕ
dump_line offset bytes = hex_digits offset ++ codes ":" ++ flat_map (λ b. codes " " ++ hex_digits b) bytes ++ codes "\n"

-- the lines of a block, sixteen bytes each
unfoldable pub dump : List ℕ → List ℕ
dump block = flat_map (λ row. dump_line (16 * row) (slice_range block (16 * row) (16 * row + 16))) (range_with_len 0 16)
