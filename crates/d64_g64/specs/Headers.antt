-- Headers, which name the block that comes after them. A pair is a start and the next one, which
-- for a header is its data start.
use Rattle.std.specs.Prelude.{ℕ, ◌&&◌, not, Bool, false, Option, Some, None, find, option_map}
use Rattle.d64_image.specs.Disk.{Bytes}
use Rattle.d64_g64.specs.Codes.{value_at, value_or_zero, is_value, xor_of, are_equal_values}
use Rattle.d64_g64.specs.Starts.{start_pairs}

-- whether a pair is a header of a track and a sector: byte 0 is $08, byte 3 the track and byte 2
-- the sector
unfoldable pub names_block : Bytes → ℕ → ℕ → ℕ × ℕ → Bool
names_block track number sector pair =
    is_value (value_at track pair.0 0) 8 && is_value (value_at track pair.0 3) number && is_value (value_at track pair.0 2) sector

-- whether a header is good: bytes 1 to 5 have values, and byte 1 is the exclusive or of the others
unfoldable pub is_good_header : Bytes → ℕ × ℕ → Bool
is_good_header track pair =
    are_equal_values (value_at track pair.0 1) (xor_of (xor_of (value_at track pair.0 2) (value_at track pair.0 3)) (xor_of (value_at track pair.0 4) (value_at track pair.0 5)))

-- the id of a good header: bytes 5 and 4
abbrev pub id_of : Bytes → ℕ × ℕ → ℕ × ℕ
id_of track pair = (value_or_zero (value_at track pair.0 5), value_or_zero (value_at track pair.0 4))

-- whether the disk has an id, and the header another one
abbrev pub has_other_id : Option (ℕ × ℕ) → Bytes → ℕ × ℕ → Bool
has_other_id None track pair = false
has_other_id (Some id) track pair = not (is_value (value_at track pair.0 5) id.0 && is_value (value_at track pair.0 4) id.1)

-- the disk's id, by its track 18: that of the first good header that names 18/0; None if there is
-- no such header
unfoldable pub track_disk_id : Bytes → Option (ℕ × ℕ)
track_disk_id track = option_map (id_of track) (find (λ pair. names_block track 18 0 pair && is_good_header track pair) (start_pairs track))
