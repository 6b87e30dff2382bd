-- What is written of the file of a slot.
use Rattle.std.specs.Prelude.{ℕ, ◌&&◌, ◌==◌, Bool, if◌then◌else◌, length, slice_range, Option, Some, None, option_map}
use Rattle.std.specs.List.{flat_map}
use Rattle.std.specs.Option.{option_or, option_and_then}
use Rattle.d64_image.specs.Disk.{Disk, Bytes, Blocks}
use Rattle.d64_image.specs.Image.{sector_at}
use Rattle.d64_files.specs.Slot.{is_used, has_kind, first_pair}
use Rattle.d64_files.specs.FileData.{data_along}
use Rattle.d64_survey.specs.Way.{way, is_whole}
use Rattle.d64_survey.specs.Inspection.{slot_cell}
use Rattle.d64_survey.specs.declared.way_end.WayEnd.{WayEnd}
use Rattle.d64_inventory.specs.Contents.{content_of}
use Rattle.cmd_extract_contents.specs.declared.extent.Extent.{Extent}
use Rattle.cmd_extract_contents.specs.declared.extent.Extent.TheVariants.{Content, Part}

-- what is written of a file: these bytes, which are its content, or a part of it
pub record Portion : Type 0 where
  pub bytes : Bytes
  pub extent : Extent

-- these bytes, if there are any, as what is written of a file
abbrev pub written_as : Extent → Option Bytes → Option Portion
written_as extent bytes = option_map (λ bytes. record { bytes = bytes; extent = extent }) bytes

-- the contents of blocks after their links, one after another: bytes 2 to 255 of each
abbrev pub all_along : Disk → Blocks → Bytes
all_along image blocks = flat_map (λ block. slice_range (sector_at image block) 2 256) blocks

-- what is there along a chain: the data of its blocks if it is whole, and otherwise their contents
-- after the links; None if it has no blocks
abbrev pub found_along : Disk → Blocks × WayEnd → Option Bytes
found_along image way =
    if length way.0 == 0 then None
    else (if is_whole way.1 then Some (data_along image way.0) else Some (all_along image way.0))

-- what is there of the file of a slot, whether or not it was closed: along the chain from its first
-- block. A slot that is not used or has no kind has no file
abbrev pub part_of : Disk → Bytes → Option Bytes
part_of image cell = if is_used cell && has_kind cell then found_along image (way image (first_pair cell)) else None

-- what is written of the file of a slot: its content; or, if it has none and parts are wanted, what
-- is there of it
unfoldable pub portion : Bool → Disk → Bytes → Option Portion
portion with_parts image cell =
    option_or (written_as Content (content_of image cell)) (if with_parts then written_as Part (part_of image cell) else None)

-- what is written of the file of the slot with this number; None if the directory has no such slot
abbrev pub portion_at : Bool → Disk → ℕ → Option Portion
portion_at with_parts image slot = option_and_then (portion with_parts image) (slot_cell image slot)
