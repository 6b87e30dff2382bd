-- The blocks that the headers of a track name, of which the drive could read what follows.
use Rattle.std.specs.Prelude.{ℕ, ◌==◌, ◌&&◌, not, if◌then◌else◌, Bool, List, [], length, map, filter, is_some, Option}
use Rattle.d64_image.specs.Disk.{Bytes}
use Rattle.d64_survey.specs.Dump.{image_bytes}
use Rattle.d64_g64.specs.Codes.{value_at, value_or_zero, is_value}
use Rattle.d64_g64.specs.Starts.{start_pairs}
use Rattle.d64_g64.specs.Blocks.{header_code}
use Rattle.d64_g64.specs.File.{begins_as_g64, is_g64, entry_track_bytes}
use Rattle.d64_g64.specs.Dump.{id_in}

-- a header whose code is 1, by its start and the next one: byte 0 is $08
abbrev pub is_sound_header : Option (ℕ × ℕ) → Bytes → ℕ × ℕ → Bool
is_sound_header id track pair = is_value (value_at track pair.0 0) 8 && (header_code id track pair == 1)

-- the track and the sector that it names: bytes 3 and 2
abbrev pub pair_named : Bytes → ℕ × ℕ → ℕ × ℕ
pair_named track pair = (value_or_zero (value_at track pair.0 3), value_or_zero (value_at track pair.0 2))

-- the tracks and sectors that the headers among these pairs of starts name, if their code is 1
unfoldable pub names_by : Option (ℕ × ℕ) → Bytes → List (ℕ × ℕ) → List (ℕ × ℕ)
names_by id track pairs = map (pair_named track) (filter (is_sound_header id track) pairs)

-- a file is read as a G64, and not as a D64
abbrev pub is_read_as_g64 : Bytes → Bool
is_read_as_g64 file = not (is_some (image_bytes (length file))) && (begins_as_g64 file && is_g64 file)

-- those on the track of an entry, whole or half, by the file's own id; empty if the file is no G64
unfoldable pub names_on : Bytes → ℕ → List (ℕ × ℕ)
names_on file entry =
    if is_read_as_g64 file then names_by (id_in file) (entry_track_bytes file entry) (start_pairs (entry_track_bytes file entry)) else []
