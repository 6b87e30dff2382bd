-- The header of a disk, in the map's block.
use Rattle.std.specs.Prelude.{slice_range}
use Rattle.d64_image.specs.Disk.{Disk, Bytes}
use Rattle.d64_image.specs.Image.{sector_at}
use Rattle.d64_map.specs.Map.{map_block}
use Rattle.d64_files.specs.Name.{name_in}

-- the field of the disk's name
abbrev pub disk_field : Disk → Bytes
disk_field image = slice_range (sector_at image map_block) 0x90 0xA0

-- the disk's name, up to the first shifted space of its field
abbrev pub disk_name : Disk → Bytes
disk_name image = name_in (disk_field image)

-- the disk's id
abbrev pub disk_id : Disk → Bytes
disk_id image = slice_range (sector_at image map_block) 0xA2 0xA4

-- the DOS version and the format
abbrev pub disk_dos : Disk → Bytes
disk_dos image = slice_range (sector_at image map_block) 0xA5 0xA7
