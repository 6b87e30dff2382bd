-- What is written of the file of a row, also of a deleted one.
use Rattle.std.specs.Prelude.{Bool, if◌then◌else◌, Option, None}
use Rattle.d64_image.specs.Disk.{Disk}
use Rattle.d64_image.specs.Block.{pair_at}
use Rattle.d64_survey.specs.Way.{way}
use Rattle.d64_scratched.specs.Scratched.{is_lost}
use Rattle.d64_inventory.specs.Contents.{content_along}
use Rattle.d64_leftovers.specs.Deleted.{DeletedRowView}
use Rattle.d64_leftovers.specs.declared.row.ListedRow.{ListedRow}
use Rattle.d64_leftovers.specs.declared.row.ListedRow.TheVariants.{File, Deleted, Orphan}
use Rattle.cmd_extract_contents.specs.Portions.{Portion, written_as, found_along, portion_at}
use Rattle.cmd_extract_contents.specs.declared.extent.Extent.TheVariants.{Content, Part}

-- what is written of a deleted file: the content along its way, where the file isn't lost, and else,
-- if parts are wanted, what is there along it
abbrev pub deleted_portion : Bool → Disk → DeletedRowView → Option Portion
deleted_portion with_parts image row =
    if is_lost row.losses
    then (if with_parts then written_as Part (found_along image (way image row.first)) else None)
    else written_as Content (content_along image (way image row.first))

-- what is written of the file of a row: of an orphan the content along it
abbrev pub row_portion : Bool → Disk → ListedRow → Option Portion
row_portion with_parts image (File row) = portion_at with_parts image row.slot
row_portion with_parts image (Deleted row) = deleted_portion with_parts image row
row_portion with_parts image (Orphan row) = written_as Content (content_along image (way image (pair_at row.first)))
