-- A cell of a picture: a block's square, its mark, and its title.
use Rattle.std.specs.Prelude.{ℕ, ◌+◌, ◌*◌, ◌==◌, Bool, if◌then◌else◌, List, [], ◌++◌, length, codes, decimal}
use Rattle.std.specs.List.{flat_map, range_with_len}
use Rattle.std.specs.FinSet as set
use Rattle.d64_image.specs.Block.{pair_at}
use Rattle.d64_map.specs.Map.{free_blocks}
use Rattle.d64_survey.specs.Dump.{DumpView, is_read_error, drive_status}
use Rattle.d64_survey.specs.ReadErrors.{code_of}
use Rattle.d64_survey.specs.Owners.{owners_of}
use Rattle.out_messages.specs.Words.{block_text}
use Rattle.out_messages.specs.OwnerText.{block_owners}
use Rattle.out_messages.specs.FaultText.{drive_status_text}
use Rattle.out_picture.specs.declared.block_state.BlockState.{BlockState}
use Rattle.out_picture.specs.declared.block_state.BlockState.TheVariants.{Free, File, System, Unowned, Fault, Unreadable}
use Rattle.out_picture.specs.States.{state_of_block}
use Rattle.out_picture.specs.declared.colour.Colour.{Colour}
use Rattle.out_picture.specs.Colours.{class_of, colour_of}
use Rattle.out_markup.specs.Markup.{attribute, element, escaped_within}
use Rattle.out_picture.specs.Shapes.{path_from, path_element}

-- the x coordinate of a sector's column
abbrev pub column_x : ℕ → ℕ
column_x sector = 46 + 22 * sector

-- the y coordinate of a track's row
abbrev pub row_y : ℕ → ℕ
row_y track = 62 + 22 * track

-- a read error with this code, and the drive's status for it, if there is one
unfoldable pub read_text : ℕ → List ℕ
read_text code = codes "could not be read (code " ++ (decimal code ++ (drive_status_text (drive_status code) ++ codes "), "))

-- the same, if the code is a read error's
unfoldable pub block_error_text : ℕ → List ℕ
block_error_text code = if is_read_error code then read_text code else []

-- the text before the owners of a block that has this many
unfoldable pub claim_text : ℕ → List ℕ
claim_text count = if count == 1 then codes "belongs to " else codes "shared by " ++ (decimal count ++ codes ": ")

-- how a block with this many owners is marked; the owners follow
unfoldable pub mark_text : ℕ → Bool → List ℕ
mark_text count free =
    if count == 0
    then (if free then codes "free" else codes "marked used, belongs to no file")
    else (if free then codes "marked free, but " else []) ++ claim_text count

-- a block, its read error, and how it is marked and owned
unfoldable pub cell_text : DumpView → ℕ → List ℕ
cell_text dump block =
    block_text block
    ++ (codes ": "
    ++ (block_error_text (code_of dump.codes block)
    ++ (mark_text (length (owners_of dump.image block)) (set.contains (free_blocks dump.image) block) ++ block_owners dump.image block)))

-- the title of a block, which a browser shows under the pointer
unfoldable pub cell_title : DumpView → ℕ → List ℕ
cell_title dump block = element (codes "title") [] (escaped_within 80 (cell_text dump block))

-- the attributes of a square
unfoldable pub square_of : Colour → ℕ → ℕ → List ℕ
square_of colour x y = attribute (codes "class") (class_of colour) ++ path_from (x + 2) (y + 2) (codes "h16v16h-16z")

-- the mark of a state on a square: a dot if nothing owns the block, a triangle with `!` for a
-- fault, and a box with a cross for a read error
unfoldable pub mark_at : ℕ → ℕ → BlockState → List ℕ
mark_at x y Free = []
mark_at x y File = []
mark_at x y System = []
mark_at x y Unowned = path_element (codes "dot") x y (codes "m10 10h.01")
mark_at x y Fault = path_element (codes "bad") x y (codes "m10 3l7 13h-14zm0 5v4m0 2v.01")
mark_at x y Unreadable = path_element (codes "bad") x y (codes "m4 4h12v12h-12zm3 3l6 6m0-6l-6 6")

-- the square of a block, at its sector's column and its track's row, with its title
unfoldable pub cell_square : DumpView → ℕ → List ℕ
cell_square dump block =
    element (codes "path") (square_of (colour_of dump.image block) (column_x (pair_at block).1) (row_y (pair_at block).0)) (cell_title dump block)

-- the cell of a block: its square, and the mark of its state
unfoldable pub block_cell : DumpView → ℕ → List ℕ
block_cell dump block = cell_square dump block ++ (mark_at (column_x (pair_at block).1) (row_y (pair_at block).0) (state_of_block dump block) ++ codes "\n")

-- the cells of all blocks
unfoldable pub block_cells : DumpView → List ℕ
block_cells dump = flat_map (block_cell dump) (range_with_len 0 (length dump.image))
