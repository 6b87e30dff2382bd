-- A track is a circle of bits.
use Rattle.std.specs.Prelude.{ℕ, zero, suc, ◌+◌, ◌-◌, ◌*◌, ◌/◌, ◌%◌, ◌<◌, length, slice_index}
use Rattle.std.specs.Int.{bit_at}
use Rattle.d64_image.specs.Disk.{Bytes}

-- a track has at least one byte, and no more than a number of two bytes can count
abbrev pub IsTrack : Bytes → Type 0
IsTrack track = (0 < length track) × (length track < 65536)

-- the byte at a place, counted round the circle
unfoldable pub byte_on : Bytes → ℕ → ℕ
byte_on track place = slice_index track (place % length track)

-- the bit at a place of the circle: eight in each byte, the highest first
unfoldable pub bit_on : Bytes → ℕ → ℕ
bit_on track place = bit_at (byte_on track (place / 8)) (7 - place % 8)

-- the number of count bits from a place on, the first of them the highest
unfoldable pub bits_from : Bytes → ℕ → ℕ → ℕ
bits_from track place zero = 0
bits_from track place (suc count) = 2 * bits_from track place count + bit_on track (place + count)
