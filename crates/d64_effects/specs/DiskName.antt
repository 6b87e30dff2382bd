-- The image after the disk gets a new name, byte for byte.
use Rattle.std.specs.Prelude.{Option, Some, None}
use Rattle.d64_image.specs.Disk.{Disk, Bytes}
use Rattle.d64_image.specs.Image.{sector_at, with_sector}
use Rattle.d64_map.specs.Map.{map_block}
use Rattle.d64_files.specs.Name.{filled_field}
use Rattle.d64_files.specs.Writing.{written_at}

-- another id in the map's block, if given
abbrev pub with_id : Bytes → Option Bytes → Bytes
with_id bytes None = bytes
with_id bytes (Some id) = written_at bytes 0xA2 id

-- the map's block with another name, and another id if given
unfoldable pub labelled : Bytes → Bytes → Option Bytes → Bytes
labelled bytes name id = with_id (written_at bytes 0x90 (filled_field name)) id

unfoldable pub named_disk : Disk → Bytes → Option Bytes → Disk
named_disk image name id = with_sector image map_block (labelled (sector_at image map_block) name id)
