-- The names on a disk, as texts.
use Rattle.std.specs.Prelude.{ℕ, List, ◌++◌, codes}
use Rattle.d64_image.specs.Disk.{Bytes}
use Rattle.petscii.specs.Spelling.{spelling}

-- a name in text form, between quotes
unfoldable pub quoted_name : Bytes → List ℕ
quoted_name name = codes "\"" ++ (spelling name ++ codes "\"")
