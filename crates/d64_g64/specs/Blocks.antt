-- Blocks: what the headers of a track say about a block, and its read code.
use Rattle.std.specs.Prelude.{ℕ, ◌==◌, ◌&&◌, if◌then◌else◌, Bool, length, map, fold, replicate, bit_xor, Option, find, is_some}
use Rattle.std.specs.List.{range_with_len, list_all}
use Rattle.std.specs.Option.{option_map_or, option_or}
use Rattle.d64_image.specs.Disk.{Bytes}
use Rattle.d64_g64.specs.Codes.{value_at, value_or_zero, is_value}
use Rattle.d64_g64.specs.Starts.{starts_on, start_pairs}
use Rattle.d64_g64.specs.Headers.{names_block, is_good_header, has_other_id}

-- bytes 1 to 256 from a data start, 0 for one without a value
unfoldable pub data_bytes : Bytes → ℕ → Bytes
data_bytes track start = map (λ k. value_or_zero (value_at track start k)) (range_with_len 1 256)

-- whether bytes 1 to 256 from a data start have values, and byte 257 is their exclusive or
unfoldable pub is_whole_block : Bytes → ℕ → Bool
is_whole_block track start =
    list_all (λ k. is_some (value_at track start k)) (range_with_len 1 256) && is_value (value_at track start 257) (fold bit_xor 0 (data_bytes track start))

-- whether byte 0 of the data start is $07
abbrev pub is_data : Bytes → ℕ → Bool
is_data track start = is_value (value_at track start 0) 7

-- the code of what follows a header, by its data start: 4 if it is no data block, 5 if it isn't
-- whole, 1 if it is
unfoldable pub data_code : Bytes → ℕ → ℕ
data_code track start = if is_data track start then (if is_whole_block track start then 1 else 5) else 4

-- the code of a header: 9 if it isn't good, 11 if its id isn't the disk's, else the code of what
-- follows it
unfoldable pub header_code : Option (ℕ × ℕ) → Bytes → ℕ × ℕ → ℕ
header_code id track pair =
    if is_good_header track pair then (if has_other_id id track pair then 11 else data_code track pair.1) else 9

-- whether a header names a block, and has code 1
abbrev pub names_readable : Option (ℕ × ℕ) → Bytes → ℕ → ℕ → ℕ × ℕ → Bool
names_readable id track number sector pair = names_block track number sector pair && (header_code id track pair == 1)

-- 256 bytes of 0
abbrev pub blank : Bytes
blank = replicate 256 0

-- the bytes that follow a header, by its data start
unfoldable pub bytes_behind : Bytes → ℕ → Bytes
bytes_behind track start = if is_data track start then data_bytes track start else blank

-- the header of a block: the first that names it and has code 1, else the first that names it
unfoldable pub header_of : Option (ℕ × ℕ) → Bytes → ℕ → ℕ → Option (ℕ × ℕ)
header_of id track number sector =
    option_or
    (find (names_readable id track number sector) (start_pairs track))
    (find (names_block track number sector) (start_pairs track))

-- the code of a block: 3 if its track has no start, 2 if no header names it, else its header's
unfoldable pub block_code_of : Option (ℕ × ℕ) → Bytes → ℕ → ℕ → ℕ
block_code_of id track number sector =
    if length (starts_on track) == 0 then 3 else option_map_or (header_code id track) (header_of id track number sector) 2

-- the bytes of a block: those behind its header, or zeros if it has no header
unfoldable pub block_bytes_of : Option (ℕ × ℕ) → Bytes → ℕ → ℕ → Bytes
block_bytes_of id track number sector = option_map_or (λ pair. bytes_behind track pair.1) (header_of id track number sector) blank
