-- The group code: a nibble is written as five bits, a byte as ten.
use Rattle.std.specs.Prelude.{ℕ, ◌+◌, ◌*◌, ◌/◌, ◌%◌, ◌==◌, nat_eq, Bool, false, List, [], ◌∷◌, position, bit_xor, Option, Some, None}
use Rattle.d64_image.specs.Disk.{Bytes}
use Rattle.d64_g64.specs.Circle.{bits_from}

-- the codes of the nibbles 0 to 15: 01010 01011 10010 10011, 01110 01111 10110 10111,
-- 01001 11001 11010 11011, 01101 11101 11110 10101
abbrev pub nibble_codes : List ℕ
nibble_codes = 10 ∷ 11 ∷ 18 ∷ 19 ∷ 14 ∷ 15 ∷ 22 ∷ 23 ∷ 9 ∷ 25 ∷ 26 ∷ 27 ∷ 13 ∷ 29 ∷ 30 ∷ 21 ∷ []

-- the nibble of a code; None if it is no code
unfoldable pub nibble_of : ℕ → Option ℕ
nibble_of code = position (nat_eq code) nibble_codes

-- the byte of two nibbles, the high one first; None if one of them is missing
abbrev pub joined : Option ℕ → Option ℕ → Option ℕ
joined None low = None
joined (Some high) None = None
joined (Some high) (Some low) = Some (16 * high + low)

-- the byte of ten bits: two codes of five bits
unfoldable pub byte_of_bits : ℕ → Option ℕ
byte_of_bits bits = joined (nibble_of (bits / 32)) (nibble_of (bits % 32))

-- byte k from a place: that of the ten bits from ten times k further on
unfoldable pub value_at : Bytes → ℕ → ℕ → Option ℕ
value_at track place k = byte_of_bits (bits_from track (place + 10 * k) 10)

-- a value, or 0 if there is no value
abbrev pub value_or_zero : Option ℕ → ℕ
value_or_zero None = 0
value_or_zero (Some value) = value

-- whether there is a value, and it is this one
abbrev pub is_value : Option ℕ → ℕ → Bool
is_value None wanted = false
is_value (Some value) wanted = value == wanted

-- the exclusive or of two bytes; None if one of them has no value
abbrev pub xor_of : Option ℕ → Option ℕ → Option ℕ
xor_of None other = None
xor_of (Some value) None = None
xor_of (Some value) (Some other) = Some (bit_xor value other)

-- whether both bytes have values, and these are equal
abbrev pub are_equal_values : Option ℕ → Option ℕ → Bool
are_equal_values value None = false
are_equal_values value (Some other) = is_value value other
