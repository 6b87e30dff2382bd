-- The data of a file in its blocks.
use Rattle.std.specs.Prelude.{◌+◌, ◌==◌, if◌then◌else◌, slice_index, slice_range}
use Rattle.std.specs.List.{flat_map}
use Rattle.d64_image.specs.Disk.{Disk, Bytes, Blocks}
use Rattle.d64_image.specs.Image.{sector_at}

-- a block's data: bytes 2 to 255; in the last block up to the index in byte 1
abbrev pub data_of : Bytes → Bytes
data_of sector = if slice_index sector 0 == 0 then slice_range sector 2 (slice_index sector 1 + 1) else slice_range sector 2 256

-- the data of blocks, one after another
abbrev pub data_along : Disk → Blocks → Bytes
data_along image blocks = flat_map (λ block. data_of (sector_at image block)) blocks
