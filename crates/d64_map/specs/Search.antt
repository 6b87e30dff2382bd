-- The orders in which free blocks are searched.
use Rattle.std.specs.Prelude.{ℕ, ◌+◌, ◌-◌, ◌==◌, nat_lt, if◌then◌else◌, List, ◌++◌, map, take, drop}
use Rattle.std.specs.List.{range_with_len, flat_map}
use Rattle.d64_image.specs.Disk.{Blocks}
use Rattle.d64_image.specs.Block.{sectors_on, pair_at}
use Rattle.d64_map.specs.Track.{blocks_on}

-- from 17 down to 1
unfoldable pub lower_tracks : List ℕ
lower_tracks = map (λ distance. 18 - distance) (range_with_len 1 17)

-- from 19 up to 40
unfoldable pub upper_tracks : List ℕ
upper_tracks = map (λ distance. 18 + distance) (range_with_len 1 22)

-- the order for a file's first block: tracks 17, 19, 16, 20 and so on to 1, 35, then 36 to 40
unfoldable pub first_order : Blocks
first_order =
    flat_map (λ distance. blocks_on (18 - distance) ++ blocks_on (18 + distance)) (range_with_len 1 17) ++ flat_map blocks_on (range_with_len 36 5)

-- the sector an interleave further; past the track's end it is counted from the beginning, and one
-- less
abbrev pub sector_after : ℕ → ℕ → ℕ → ℕ
sector_after interleave sectors sector =
    if nat_lt (sector + interleave) sectors then sector + interleave else one_less (sector + interleave - sectors)
  where
    one_less : ℕ → ℕ
    one_less rest = if rest == 0 then 0 else rest - 1

-- a list from a place on, and then up to it
abbrev pub rotated_list : ℕ → List ℕ → List ℕ
rotated_list place list = drop place list ++ take place list

-- the tracks after a track, outward from 18: to the end of its side, then the other side, then the
-- rest of its own
unfoldable pub tracks_after : ℕ → List ℕ
tracks_after track =
    if nat_lt track 18
    then drop (18 - track) lower_tracks ++ upper_tracks ++ take (17 - track) lower_tracks
    else drop (track - 18) upper_tracks ++ lower_tracks ++ take (track - 19) upper_tracks

-- the order for a file's next block, after the last one taken
unfoldable pub next_order : ℕ → Blocks
next_order last =
    if track == 18
    then first_order
    else rotated_list (sector_after 10 (sectors_on track) (pair_at last).1) (blocks_on track) ++ flat_map blocks_on (tracks_after track)
  where
    track : ℕ
    track = (pair_at last).0

-- the order for the directory's next block
unfoldable pub dir_order : ℕ → Blocks
dir_order last =
    if (pair_at last).0 == 18 then rotated_list (sector_after 3 (sectors_on 18) (pair_at last).1) (blocks_on 18) else blocks_on 18
