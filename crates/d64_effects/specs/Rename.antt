-- The image after a file is renamed, byte for byte.
use Rattle.std.specs.Prelude.{ℕ, List, position, Option, Some, None}
use Rattle.d64_image.specs.Disk.{Disk, Bytes}
use Rattle.d64_files.specs.Clearing.{with_name}
use Rattle.d64_files.specs.Directory.{slots, has_name}

-- the first used slot with this name
abbrev pub first_of_name : Bytes → List Bytes → Option ℕ
first_of_name name cells = position (has_name name) cells

-- a new name in a slot, if there is one
abbrev pub with_name_in : Disk → Option ℕ → Bytes → Disk
with_name_in image None name = image
with_name_in image (Some slot) name = with_name image slot name

unfoldable pub renamed_disk : Disk → Bytes → Bytes → Disk
renamed_disk image old new = with_name_in image (first_of_name old (slots image)) new
