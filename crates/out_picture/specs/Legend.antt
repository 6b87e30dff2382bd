-- The legend of a picture: its marks, and its files.
use Rattle.std.specs.Prelude.{ℕ, ◌+◌, ◌-◌, ◌*◌, ◌/◌, ◌%◌, nat_le, nat_lt, if◌then◌else◌, List, [], ◌++◌, length, filter, take, codes, decimal}
use Rattle.std.specs.List.{flat_map, enumerate_from}
use Rattle.d64_image.specs.Disk.{Disk}
use Rattle.d64_image.specs.Image.{tracks_of}
use Rattle.d64_files.specs.Directory.{entries}
use Rattle.d64_files.specs.Slot.{EntryView, is_used, name_of}
use Rattle.d64_survey.specs.Inspection.{entry_count}
use Rattle.d64_survey.specs.Owners.{way_slots}
use Rattle.d64_survey.specs.SlotBlocks.{slot_blocks}
use Rattle.petscii.specs.Spelling.{spelling}
use Rattle.out_picture.specs.declared.block_state.BlockState.{BlockState}
use Rattle.out_picture.specs.declared.block_state.BlockState.TheVariants as states
use Rattle.out_picture.specs.declared.colour.Colour.{Colour}
use Rattle.out_picture.specs.declared.colour.Colour.TheVariants.{Free, Unowned, System, File}
use Rattle.out_picture.specs.Cells.{square_of, mark_at}
use Rattle.out_picture.specs.Colours.{class_of, colour_of_slot}
use Rattle.out_markup.specs.Markup.{empty_element, escaped_text, shortened_text}
use Rattle.out_picture.specs.Shapes.{text_at, text_element, path_element}

-- the colour in which a state is shown in the legend
abbrev pub sample : BlockState → Colour
sample states.Free = Free
sample states.File = File 0
sample states.System = System
sample states.Unowned = Unowned
sample states.Fault = File 0
sample states.Unreadable = File 0

-- the legend's text for a state
abbrev pub state_words : BlockState → List ℕ
state_words states.Free = codes "free"
state_words states.File = codes "a file, in its colour"
state_words states.System = codes "map or directory"
state_words states.Unowned = codes "marked used, belongs to no file"
state_words states.Fault = codes "shared, or wrongly marked free"
state_words states.Unreadable = codes "read error"

-- a square with the mark of a state
abbrev pub state_sample : ℕ → BlockState → List ℕ
state_sample y state = empty_element (codes "path") (square_of (sample state) 532 y) ++ mark_at 532 y state

-- the row of a state
unfoldable pub state_row : ℕ → BlockState → List ℕ
state_row y state = state_sample y state ++ (text_at 560 (y + 14) (escaped_text (state_words state)) ++ codes "\n")

-- the rows of all states
unfoldable pub state_rows : List ℕ
state_rows =
    state_row 84 states.Free
    ++ (state_row 106 states.File
    ++ (state_row 128 states.System ++ (state_row 150 states.Unowned ++ (state_row 172 states.Fault ++ state_row 194 states.Unreadable))))

-- the most files that are shown
abbrev pub shown_files : ℕ
shown_files = 144

-- the number of rows beside the grid
abbrev pub rows_beside : ℕ
rows_beside = 30

-- the x coordinate of the row at a place in the list of files: beside the grid, and from the
-- thirtieth on below it, three side by side
unfoldable pub row_x : ℕ → ℕ
row_x place = if nat_lt place rows_beside then 532 else 46 + 243 * ((place - rows_beside) % 3)

unfoldable pub row_y : ℕ → ℕ → ℕ
row_y tracks place = if nat_lt place rows_beside then 240 + 20 * place else 98 + 22 * tracks + 20 * ((place - rows_beside) / 3)

-- a file's name in text form, as far as it fits
unfoldable pub legend_name_at : ℕ → ℕ → List ℕ → List ℕ
legend_name_at x y name = text_at x y (escaped_text (shortened_text 24 (spelling name)))

-- the row of a slot's file: its colour, its name, and its number of blocks
unfoldable pub legend_file_row : ℕ → ℕ → ℕ → List ℕ → ℕ → List ℕ
legend_file_row x y slot cell blocks =
    path_element (class_of (colour_of_slot slot)) (x + 2) (y + 2) (codes "h10v10h-10z")
    ++ (legend_name_at (x + 22) (y + 11) (name_of cell) ++ (text_element (codes "end") (x + 226) (y + 11) (decimal blocks) ++ codes "\n"))

-- the files of an image: its used slots
abbrev pub used_entries : Disk → List EntryView
used_entries image = filter (λ (entry : EntryView). is_used entry.bytes) (entries image (way_slots image))

-- the row of the file at a place in the list
unfoldable pub placed_row : Disk → ℕ × EntryView → List ℕ
placed_row image file =
    legend_file_row (row_x file.0) (row_y (tracks_of (length image)) file.0) file.1.slot file.1.bytes (length (slot_blocks image file.1.bytes))

-- the rows of the first of the files
unfoldable pub legend_file_rows : Disk → List ℕ
legend_file_rows image = flat_map (placed_row image) (take shown_files (enumerate_from 0 (used_entries image)))

-- how many of this many files are not shown, if there are any
unfoldable pub more_row : ℕ → ℕ → List ℕ
more_row tracks count =
    if nat_lt shown_files count
    then text_at (row_x shown_files + 22) (row_y tracks shown_files + 11) (escaped_text (codes "and " ++ (decimal (count - shown_files) ++ codes " more"))) ++ codes "\n"
    else []

-- the heading of the files
unfoldable pub files_head : List ℕ
files_head = text_element (codes "start") 532 230 (escaped_text (codes "file")) ++ (text_element (codes "end") 758 230 (escaped_text (codes "blocks")) ++ codes "\n")

-- the legend
unfoldable pub legend : Disk → List ℕ
legend image = state_rows ++ (files_head ++ (legend_file_rows image ++ more_row (tracks_of (length image)) (entry_count image)))

-- how many rows are below the grid, for this many files
unfoldable pub rows_below : ℕ → ℕ
rows_below count = if nat_le count rows_beside then 0 else (count - rows_beside + 2) / 3
