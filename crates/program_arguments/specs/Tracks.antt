-- The number of tracks that `--tracks` gives.
use Rattle.std.specs.Prelude.{◌≡◌, ℕ, List, Option, Some, None, if◌then◌else◌, bytes_eq, codes, ⊤}

-- the number that a text gives; None if no disk has this many tracks
abbrev pub track_count : List ℕ → Option ℕ
track_count text = if bytes_eq text (codes "35") then Some 35 else (if bytes_eq text (codes "40") then Some 40 else None)

-- the tracks that the option gives, which excludes an image: the number that is written, or 35
-- without the option
abbrev pub IsTracksBy : Option (List ℕ) → Option (List ℕ) → ℕ → Type 0
IsTracksBy None image tracks = tracks ≡ 35
IsTracksBy (Some text) None tracks = track_count text ≡ Some tracks
IsTracksBy (Some text) (Some image) tracks = ⊥

-- no disk has the number that is written, or an image is given too, which has tracks of its own
abbrev pub HasNoTracks : Option (List ℕ) → Option (List ℕ) → Type 0
HasNoTracks None image = ⊥
HasNoTracks (Some text) None = track_count text ≡ None
HasNoTracks (Some text) (Some image) = ⊤
