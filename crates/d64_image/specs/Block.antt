-- Blocks: the tracks of a disk, their sectors, and the place of each in an image.
use Rattle.std.specs.Prelude.{ℕ, ◌-◌, ◌<◌, ◌≤◌, ◌==◌, ◌&&◌, nat_lt, if◌then◌else◌, List, map, position, Option, slice_index_or}
use Rattle.std.specs.List.{flat_map, range_with_len, sum_by}

-- a track's number of sectors, in four zones
abbrev pub sectors_on : ℕ → ℕ
sectors_on track =
    if nat_lt track 18 then 21 else (if nat_lt track 25 then 19 else (if nat_lt track 31 then 18 else 17))

-- a disk may have the track: tracks count from 1, and there are at most 40
abbrev pub IsTrackNumber : ℕ → Type 0
IsTrackNumber track = (1 ≤ track) × (track < 41)

-- a track with each of its sectors
abbrev pub pairs_on : ℕ → List (ℕ × ℕ)
pairs_on track = map (λ sector. (track, sector)) (range_with_len 0 (sectors_on track))

-- the tracks 1 to 40, each with its sectors
unfoldable pub pairs : List (ℕ × ℕ)
pairs = flat_map pairs_on (range_with_len 1 40)

-- whether a track and a sector are legal: a disk of 40 tracks has such a sector
abbrev pub IsLegal : ℕ → ℕ → Type 0
IsLegal track sector = (1 ≤ track) × (track < 41) × (sector < sectors_on track)

-- a track's first block, after those of the tracks before
unfoldable pub first_block : ℕ → ℕ
first_block track = sum_by sectors_on (range_with_len 1 (track - 1))

-- a block's track and sector: the pair at its number
unfoldable pub pair_at : ℕ → ℕ × ℕ
pair_at block = slice_index_or pairs block (0, 0)

-- the block of a track and sector, if there is one
unfoldable pub block_of : ℕ → ℕ → Option ℕ
block_of track sector = position (λ pair. (pair.0 == track) && (pair.1 == sector)) pairs
