-- The content of the file of a slot, its length and its digest.
use Rattle.std.specs.Prelude.{if◌then◌else◌, length, Option, Some, None, option_map}
use Rattle.std.specs.Option.{option_and_then}
use Rattle.sha2.specs.Sha256.{sha256}
use Rattle.d64_image.specs.Disk.{Disk, Bytes, Blocks}
use Rattle.d64_files.specs.FileData.{data_along}
use Rattle.d64_survey.specs.Way.{way, is_whole}
use Rattle.d64_survey.specs.Owners.{pair_of}
use Rattle.d64_survey.specs.declared.owner.Part.TheVariants.{Data}
use Rattle.d64_survey.specs.declared.way_end.WayEnd.{WayEnd}
use Rattle.d64_inventory.specs.declared.row.Content.{Content}

-- the content along a way: the data of its blocks; None if the way isn't a whole chain
abbrev pub content_along : Disk → Blocks × WayEnd → Option Bytes
content_along image way = if is_whole way.1 then Some (data_along image way.0) else None

-- the content of the file of a slot: that along its data way, if it has one
abbrev pub content_of : Disk → Bytes → Option Bytes
content_of image cell = option_and_then (λ pair. content_along image (way image pair)) (pair_of Data cell)

-- how many bytes a content has, and their SHA-256 digest
unfoldable pub digested_content : Bytes → Content
digested_content bytes = record { bytes = length bytes; digest = sha256 bytes }

-- the length and the digest of the content along a way
abbrev pub digested_along : Disk → Blocks × WayEnd → Option Content
digested_along image way = option_map digested_content (content_along image way)
