-- The map of a disk as a picture in SVG 1.1: a cell for each block.
use Rattle.std.specs.Prelude.{ℕ, ◌+◌, ◌*◌, List, [], ◌++◌, length, min, codes, decimal}
use Rattle.std.specs.List.{flat_map, range_with_len}
use Rattle.d64_image.specs.Disk.{Disk}
use Rattle.d64_image.specs.Image.{tracks_of}
use Rattle.d64_survey.specs.Dump.{DumpView}
use Rattle.d64_survey.specs.Inspection.{entry_count}
use Rattle.host_storage.specs.Shown.{shown_name}
use Rattle.out_messages.specs.StateText.{label_text, contents_text, state_text}
use Rattle.out_picture.specs.Cells.{column_x, row_y, block_cells}
use Rattle.out_picture.specs.Legend.{shown_files, rows_below, legend}
use Rattle.out_markup.specs.Markup.{attribute, number_attribute, element, empty_element, escaped_text, held_text, shortened_text}
use Rattle.out_picture.specs.Shapes.{text_at, text_element}
use Rattle.out_picture.specs.Style.{style}

-- a name of the host as it is shown, in characters that XML allows
unfoldable pub name_text : List ℕ → List ℕ
name_text name = held_text (shown_name name)

-- the file's name, what is on the disk, and its state
unfoldable pub picture_summary : List ℕ → DumpView → List ℕ
picture_summary name dump = name_text name ++ (codes ": " ++ (contents_text dump.image ++ (codes ": " ++ state_text dump)))

-- the disk's name and id, and the summary
unfoldable pub description : List ℕ → DumpView → List ℕ
description name dump = label_text dump.image ++ (codes ", " ++ picture_summary name dump)

-- the title
unfoldable pub title : List ℕ → DumpView → List ℕ
title name dump = element (codes "title") [] (escaped_text (description name dump)) ++ codes "\n"

-- the width of the picture
abbrev pub width : ℕ
width = 790

-- the height of the picture, for this many tracks and files
unfoldable pub height : ℕ → ℕ → ℕ
height tracks count = 108 + 22 * tracks + 20 * rows_below (min count (shown_files + 1))

-- the attributes of the background
unfoldable pub page_attributes : ℕ → List ℕ
page_attributes high = attribute (codes "class") (codes "page") ++ (number_attribute (codes "width") width ++ number_attribute (codes "height") high)

-- the background
unfoldable pub page : ℕ → List ℕ
page high = empty_element (codes "rect") (page_attributes high) ++ codes "\n"

-- the disk's name and id, as far as they fit
unfoldable pub label_line : Disk → List ℕ
label_line image = text_element (codes "head") 46 30 (escaped_text (shortened_text 60 (label_text image)))

-- the summary, below them
unfoldable pub summary_line : List ℕ → DumpView → List ℕ
summary_line name dump = text_at 46 50 (escaped_text (picture_summary name dump))

-- the two lines above the grid
unfoldable pub heads : List ℕ → DumpView → List ℕ
heads name dump = label_line dump.image ++ (codes "\n" ++ (summary_line name dump ++ codes "\n"))

-- the number of a sector, above its column
unfoldable pub column_head : ℕ → List ℕ
column_head sector = text_element (codes "middle") (column_x sector + 10) 76 (decimal sector) ++ codes "\n"

-- the numbers of the sectors
unfoldable pub column_heads : List ℕ
column_heads = flat_map column_head (range_with_len 0 21)

-- the number of a track, before its row
unfoldable pub row_head : ℕ → List ℕ
row_head track = text_element (codes "end") 38 (row_y track + 14) (decimal track) ++ codes "\n"

-- the numbers of the tracks
unfoldable pub row_heads : ℕ → List ℕ
row_heads tracks = flat_map row_head (range_with_len 1 tracks)

-- the part of the page that is seen: all of it, however large it is shown
unfoldable pub view_box : ℕ → List ℕ
view_box high = attribute (codes "viewBox") (codes "0 0 790 " ++ decimal high)

-- the attributes of the picture
unfoldable pub picture_attributes : ℕ → List ℕ
picture_attributes high =
    attribute (codes "xmlns") (codes "http://www.w3.org/2000/svg")
    ++ (attribute (codes "version") (codes "1.1") ++ (attribute (codes "class") (codes "disk") ++ view_box high))

-- the title, the style and the background
unfoldable pub top : List ℕ → DumpView → ℕ → List ℕ
top name dump high = codes "\n" ++ (title name dump ++ (style ++ page high))

-- what is drawn around the cells, before them
unfoldable pub front : List ℕ → DumpView → List ℕ
front name dump = heads name dump ++ (column_heads ++ row_heads (tracks_of (length dump.image)))

-- the whole content of the picture
unfoldable pub picture_content : List ℕ → DumpView → ℕ → List ℕ
picture_content name dump high = top name dump high ++ (front name dump ++ (block_cells dump ++ legend dump.image))

-- the picture of a dump, with this height
unfoldable pub picture : List ℕ → DumpView → ℕ → List ℕ
picture name dump high = element (codes "svg") (picture_attributes high) (picture_content name dump high) ++ codes "\n"

-- the picture of a dump
unfoldable pub svg_of : List ℕ → DumpView → List ℕ
svg_of name dump = picture name dump (height (tracks_of (length dump.image)) (entry_count dump.image))
