-- A G64 file: a header, the places of its tracks, and the tracks.
use Rattle.std.specs.Prelude.{ℕ, ◌+◌, ◌-◌, ◌*◌, ◌==◌, ◌&&◌, not, nat_lt, nat_le, nat_eq, if◌then◌else◌, Bool, [], ◌++◌, length, take, drop, replicate, slice_index, codes}
use Rattle.std.specs.Cmp.Lexicographic.{pointwise}
use Rattle.d64_image.specs.Disk.{Bytes}

-- whether a file begins with the text of a G64
unfoldable pub begins_as_g64 : Bytes → Bool
begins_as_g64 file = pointwise nat_eq (take 8 file) (codes "GCR-1541")

-- the number of two bytes, and that of four, the lowest first
abbrev pub number_of_two : Bytes → ℕ → ℕ
number_of_two file place = slice_index file place + 256 * slice_index file (place + 1)

abbrev pub number_of_four : Bytes → ℕ → ℕ
number_of_four file place = number_of_two file place + 65536 * number_of_two file (place + 2)

-- how many places of tracks, whole and half ones, the file has
abbrev pub place_count : Bytes → ℕ
place_count file = slice_index file 9

-- whether the file has its header of twelve bytes, its version is 0, and it has four bytes for the
-- place of each track and four for its speed
unfoldable pub is_g64 : Bytes → Bool
is_g64 file = nat_le 12 (length file) && (slice_index file 8 == 0) && nat_le (12 + 8 * place_count file) (length file)

-- the place of the length of an entry's track, from 0
unfoldable pub offset_of : Bytes → ℕ → ℕ
offset_of file entry = number_of_four file (12 + 4 * entry)

-- the file has the track of an entry: the entry is there and isn't 0, and the two bytes of the
-- track's length are there
unfoldable pub has_track : Bytes → ℕ → Bool
has_track file entry =
    nat_lt entry (place_count file) && not (offset_of file entry == 0) && nat_le (offset_of file entry + 2) (length file)

-- count bytes from a place on; bytes past the file's end are 0
abbrev pub padded : Bytes → ℕ → ℕ → Bytes
padded file place count = take count (drop place file) ++ replicate (count - (length file - place)) 0

-- the bytes of an entry's track; empty if there is no such track
unfoldable pub entry_track_bytes : Bytes → ℕ → Bytes
entry_track_bytes file entry =
    if has_track file entry
    then padded file (offset_of file entry + 2) (number_of_two file (offset_of file entry))
    else []

-- the bytes of a whole track: entry 0 is track 1, entry 2 track 2
unfoldable pub track_of : Bytes → ℕ → Bytes
track_of file number = entry_track_bytes file (2 * number - 2)
