-- The starts of a track: the places at which the drive, after a sync, begins to read bytes.
use Rattle.std.specs.Prelude.{ℕ, ◌+◌, ◌-◌, ◌*◌, ◌==◌, nat_lt, if◌then◌else◌, Bool, List, [], ◌∷◌, length, filter, slice_index}
use Rattle.std.specs.List.{range_with_len}
use Rattle.d64_image.specs.Disk.{Bytes}
use Rattle.d64_g64.specs.Circle.{bits_from}

-- a place of a track, counted in bits
pub record TrackPlace : Type 0 where
  pub track : Bytes
  pub place : ℕ

-- the place this many bits before another one; two rounds of the track are added, so that it is
-- never below 0
abbrev pub before : Bytes → ℕ → ℕ → ℕ
before track place count = place + 16 * length track - count

-- whether a place is a start: its bit is 0, and the ten before it are 1, which makes 11111111110
unfoldable pub is_start : Bytes → ℕ → Bool
is_start track place = bits_from track (before track place 10) 11 == 2046

-- the starts among the eight places of a byte
unfoldable pub starts_in : Bytes → ℕ → List ℕ
starts_in track at = filter (is_start track) (range_with_len (8 * at) 8)

-- the starts of a track, ascending
unfoldable pub starts_on : Bytes → List ℕ
starts_on track = filter (is_start track) (range_with_len 0 (8 * length track))

-- the start after one of a list; after the last one comes the first
abbrev pub next_of : List ℕ → ℕ → ℕ
next_of starts place = if nat_lt (place + 1) (length starts) then slice_index starts (place + 1) else slice_index starts 0

-- each start with the next one on the circle, so that the last one comes with the first
unfoldable pub with_next : ℕ → List ℕ → List (ℕ × ℕ)
with_next first [] = []
with_next first (start ∷ []) = (start, first) ∷ []
with_next first (start ∷ next ∷ rest) = (start, next) ∷ with_next first (next ∷ rest)

-- the pairs of a list of starts
abbrev pub paired : List ℕ → List (ℕ × ℕ)
paired [] = []
paired (first ∷ rest) = with_next first (first ∷ rest)

-- each start of a track with the next one on the circle
abbrev pub start_pairs : Bytes → List (ℕ × ℕ)
start_pairs track = paired (starts_on track)
