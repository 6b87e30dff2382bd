-- The blocks of a slot's file.
use Rattle.std.specs.Prelude.{◌++◌}
use Rattle.d64_image.specs.Disk.{Disk, Bytes, Blocks}
use Rattle.d64_survey.specs.Owners.{blocks_from, pair_of}
use Rattle.d64_survey.specs.declared.owner.Part.TheVariants.{Data, Side}

-- the data blocks of a slot's file and then its side blocks; a block of both comes twice
abbrev pub slot_blocks : Disk → Bytes → Blocks
slot_blocks image cell = blocks_from image (pair_of Data cell) ++ blocks_from image (pair_of Side cell)
