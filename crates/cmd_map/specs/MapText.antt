-- The map of a disk as text: a line for each track, and a character for each sector.
use Rattle.std.specs.Prelude.{ℕ, nat_lt, if◌then◌else◌, List, ◌++◌, length, codes, decimal}
use Rattle.std.specs.List.{flat_map, range_with_len}
use Rattle.d64_image.specs.Image.{tracks_of}
use Rattle.d64_map.specs.Track.{blocks_on}
use Rattle.d64_survey.specs.Dump.{DumpView}
use Rattle.host_storage.specs.Shown.{shown_name}
use Rattle.out_messages.specs.StateText.{label_text, state_text}
use Rattle.out_picture.specs.States.{state_of_block, state_mark}

-- the file's name, the disk's name and id, and its state
unfoldable pub map_head_line : List ℕ → DumpView → List ℕ
map_head_line name dump = shown_name name ++ (codes " " ++ (label_text dump.image ++ (codes ": " ++ (state_text dump ++ codes "\n"))))

-- the numbers of the sectors, above the rows: tens, and then ones
abbrev pub column_lines : List ℕ
column_lines = codes "      0         1         2\n      012345678901234567890\n"

-- a track's number, right-aligned
unfoldable pub padded_number : ℕ → List ℕ
padded_number track = (if nat_lt track 10 then codes "   " else codes "  ") ++ decimal track

-- a character for each block of a track
unfoldable pub track_row : DumpView → ℕ → List ℕ
track_row dump track = flat_map (λ block. state_mark (state_of_block dump block)) (blocks_on track)

-- the line of a track
unfoldable pub track_line : DumpView → ℕ → List ℕ
track_line dump track = padded_number track ++ (codes "  " ++ (track_row dump track ++ codes "\n"))

-- the lines of all tracks
unfoldable pub track_lines : DumpView → List ℕ
track_lines dump = flat_map (track_line dump) (range_with_len 1 (tracks_of (length dump.image)))

-- what the characters mean
abbrev pub legend_line : List ℕ
legend_line = codes "- free   # a file   = map or directory   ? marked used, belongs to no file   ! shared, or wrongly marked free   x read error\n"

-- the map as text
unfoldable pub map_text : List ℕ → DumpView → List ℕ
map_text name dump = map_head_line name dump ++ (column_lines ++ (track_lines dump ++ legend_line))
