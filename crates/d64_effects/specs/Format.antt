-- The image after a format, byte for byte.
use Rattle.std.specs.Prelude.{ℕ, [], ◌∷◌, ◌++◌, replicate}
use Rattle.std.specs.FinSet as set
use Rattle.d64_image.specs.Disk.{Disk, Bytes}
use Rattle.d64_image.specs.BlockSet.{BlockSet}
use Rattle.d64_image.specs.declared.image.TheConstants.{BLOCK_BYTES}
use Rattle.d64_image.specs.Image.{with_sector}
use Rattle.d64_map.specs.Map.{map_block, all_of, with_map}
use Rattle.d64_files.specs.Directory.{directory_start}
use Rattle.d64_files.specs.Name.{filled_field}
use Rattle.d64_files.specs.Writing.{empty_directory}

-- the map's block before the map is written: the directory's start, format `A`, name, id, DOS
-- version `2A`
unfoldable pub header : Bytes → Bytes → Bytes
header name id =
    (0x12 ∷ 0x01 ∷ [])
    ++ (0x41 ∷ 0x00 ∷ [])
    ++ replicate 140 0x00
    ++ filled_field name
    ++ (0xA0 ∷ 0xA0 ∷ [])
    ++ id
    ++ (0xA0 ∷ [])
    ++ (0x32 ∷ 0x41 ∷ [])
    ++ replicate 4 0xA0
    ++ replicate 85 0x00

-- all but the map's block and the directory's first
unfoldable pub free_when_formatted : ℕ → BlockSet
free_when_formatted count = set.remove (set.remove (all_of count) map_block) directory_start

-- n blocks of zeros
unfoldable pub blank_disk : ℕ → Disk
blank_disk count = replicate count (replicate BLOCK_BYTES 0)

-- blank but for the map's block and the directory's first
unfoldable pub formatted_disk : ℕ → Bytes → Bytes → Disk
formatted_disk count name id =
    with_map (with_sector (with_sector (blank_disk count) map_block (header name id)) directory_start empty_directory) (free_when_formatted count)
