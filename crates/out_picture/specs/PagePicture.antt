-- The map of a disk as a picture inside a page of HTML: a shape for the blocks of each file.
use Rattle.std.specs.Prelude.{ℕ, if◌then◌else◌, List, [], ◌++◌, length, codes, decimal}
use Rattle.std.specs.List.{flat_map, range_with_len, slice_get}
use Rattle.std.specs.FinSet as set
use Rattle.d64_image.specs.Disk.{Disk}
use Rattle.d64_image.specs.Block.{pair_at}
use Rattle.d64_image.specs.Image.{tracks_of}
use Rattle.d64_map.specs.Map.{free_blocks}
use Rattle.d64_files.specs.Directory.{entries}
use Rattle.d64_files.specs.Slot.{EntryView, is_used, name_of}
use Rattle.d64_survey.specs.Dump.{DumpView}
use Rattle.d64_survey.specs.Inspection.{entry_count}
use Rattle.d64_survey.specs.Owners.{owners_of, way_slots}
use Rattle.petscii.specs.Spelling.{spelling}
use Rattle.out_markup.specs.Markup.{attribute, element, escaped_text}
use Rattle.out_picture.specs.declared.block_state.BlockState.{BlockState}
use Rattle.out_picture.specs.declared.block_state.BlockState.TheVariants as states
use Rattle.out_picture.specs.declared.region.Region.{Region}
use Rattle.out_picture.specs.declared.region.Region.TheVariants.{Free, Unowned, System, File}
use Rattle.out_picture.specs.Cells.{column_x, row_y, mark_at}
use Rattle.out_picture.specs.Colours.{class_of}
use Rattle.out_picture.specs.Legend.{legend}
use Rattle.out_picture.specs.Regions.{colour_of_region, is_in}
use Rattle.out_picture.specs.States.{state_of_block}
use Rattle.out_picture.specs.Svg.{title, page, front, view_box, height}

-- these steps of a path from the corner of a block's cell, on a grid whose cells are one wide: as
-- far right as its sector, as far down as its track
unfoldable pub step_from : List ℕ → ℕ → List ℕ
step_from steps block = codes "M" ++ (decimal (pair_at block).1 ++ (codes " " ++ (decimal (pair_at block).0 ++ steps)))

-- the steps from a block, if it is in a region
unfoldable pub step_in : Disk → Region → List ℕ → ℕ → List ℕ
step_in image region steps block =
    if is_in region (slice_get (owners_of image block) 0) (set.contains (free_blocks image) block) then step_from steps block else []

-- the steps from each block of a region
unfoldable pub steps_in : Disk → Region → List ℕ → List ℕ
steps_in image region steps = flat_map (step_in image region steps) (range_with_len 0 (length image))

-- the colour of a region, and its squares
unfoldable pub region_attributes : Disk → Region → List ℕ
region_attributes image region =
    attribute (codes "class") (class_of (colour_of_region region)) ++ attribute (codes "d") (steps_in image region (codes "h1v1h-1z"))

-- the title of a region, which a browser shows under the pointer
unfoldable pub region_title : List ℕ → List ℕ
region_title text = element (codes "title") [] (escaped_text text)

-- the shape of a region, with this title
unfoldable pub region_shape : Disk → Region → List ℕ → List ℕ
region_shape image region text = element (codes "path") (region_attributes image region) (region_title text) ++ codes "\n"

-- the dots on blocks that are marked used and belong to no file
unfoldable pub dots : Disk → List ℕ
dots image = codes "<path class=\"dot\" transform=\"translate(.5 .5)\" d=\"" ++ (steps_in image Unowned (codes "h0") ++ codes "\"/>\n")

-- the regions that belong to no file
unfoldable pub plain_regions : Disk → List ℕ
plain_regions image =
    region_shape image Free (codes "free")
    ++ (region_shape image Unowned (codes "marked used, belongs to no file") ++ (dots image ++ region_shape image System (codes "map or directory")))

-- the region of the file of a slot, with its name in text form, if the slot is used
unfoldable pub file_region : Disk → EntryView → List ℕ
file_region image entry = if is_used entry.bytes then region_shape image (File entry.slot) (spelling (name_of entry.bytes)) else []

-- the regions of all files
unfoldable pub file_regions : Disk → List ℕ
file_regions image = flat_map (file_region image) (entries image (way_slots image))

-- all regions, in the cells of the grid
unfoldable pub regions : Disk → List ℕ
regions image =
    codes "<g class=\"cells\" transform=\"translate(46 62) scale(22)\">\n" ++ (plain_regions image ++ (file_regions image ++ codes "</g>\n"))

-- the mark of a state, if it means that something is wrong with the block
abbrev pub alert_at : ℕ → ℕ → BlockState → List ℕ
alert_at x y states.Free = []
alert_at x y states.File = []
alert_at x y states.System = []
alert_at x y states.Unowned = []
alert_at x y states.Fault = mark_at x y states.Fault
alert_at x y states.Unreadable = mark_at x y states.Unreadable

-- the mark of a block, if something is wrong with it
unfoldable pub alert : DumpView → ℕ → List ℕ
alert dump block = alert_at (column_x (pair_at block).1) (row_y (pair_at block).0) (state_of_block dump block)

-- the marks of all blocks
unfoldable pub alerts : DumpView → List ℕ
alerts dump = flat_map (alert dump) (range_with_len 0 (length dump.image))

-- the attributes of the picture, which a screen reader takes for one image
unfoldable pub page_attributes : ℕ → List ℕ
page_attributes high = attribute (codes "class") (codes "disk") ++ (attribute (codes "role") (codes "img") ++ view_box high)

-- the whole content of the picture
unfoldable pub page_content : List ℕ → DumpView → ℕ → List ℕ
page_content name dump high =
    codes "\n" ++ (title name dump ++ (page high ++ (front name dump ++ (regions dump.image ++ (alerts dump ++ legend dump.image)))))

-- the picture of a dump, with this height
unfoldable pub page_picture : List ℕ → DumpView → ℕ → List ℕ
page_picture name dump high = element (codes "svg") (page_attributes high) (page_content name dump high) ++ codes "\n"

-- the picture of a dump
unfoldable pub page_svg_of : List ℕ → DumpView → List ℕ
page_svg_of name dump = page_picture name dump (height (tracks_of (length dump.image)) (entry_count dump.image))
