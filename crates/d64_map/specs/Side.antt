-- The two sides of track 18, and the tracks along each.
use Rattle.std.specs.Prelude.{ℕ, ◌+◌, ◌-◌, List, ◌++◌, map}
use Rattle.std.specs.List.{range_with_len}
use Rattle.d64_map.specs.declared.search.Side.{Side}
use Rattle.d64_map.specs.declared.search.Side.TheVariants.{Lower, Upper}

-- the track at a distance from track 18 on a side
abbrev pub track_at : Side → ℕ → ℕ
track_at Lower distance = 18 - distance
track_at Upper distance = 18 + distance

-- the other side
abbrev pub other_side : Side → Side
other_side Lower = Upper
other_side Upper = Lower

-- how many tracks a side has: below 18 those down to 1, above it those up to 40
abbrev pub reach : Side → ℕ
reach Lower = 17
reach Upper = 22

-- the tracks of a side at n distances, from one on
unfoldable pub tracks_along : Side → ℕ → ℕ → List ℕ
tracks_along side from count = map (track_at side) (range_with_len from count)

-- the tracks beyond one of a side, then the other side, and then the rest of the side up to that
-- track
abbrev pub tracks_beyond : Side → ℕ → List ℕ
tracks_beyond side distance =
    tracks_along side (distance + 1) (reach side - distance) ++ tracks_along (other_side side) 1 (reach (other_side side)) ++ tracks_along side 1 (distance - 1)
