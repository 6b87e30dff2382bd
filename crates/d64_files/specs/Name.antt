-- The names of files and disks.
use Rattle.std.specs.Prelude.{◌-◌, ◌==◌, Bool, not, ◌∷◌, ◌++◌, length, replicate, take_while}
use Rattle.d64_image.specs.Disk.{Bytes}
use Rattle.d64_files.specs.Label.{IsLabel, is_label, star, question_mark, separators}

-- the bytes that no name has
abbrev pub forbidden_in_names : Bytes
forbidden_in_names = star ∷ question_mark ∷ separators

-- the bytes are the name of a file or a disk
abbrev pub IsName : Bytes → Type 0
IsName = IsLabel forbidden_in_names

-- whether some bytes are a name
abbrev pub is_name : Bytes → Bool
is_name = is_label forbidden_in_names

-- a field's bytes before the first shifted space
abbrev pub name_in : Bytes → Bytes
name_in field = take_while (λ byte. not (byte == 0xA0)) field

-- a name filled with shifted spaces to 16 bytes
abbrev pub filled_field : Bytes → Bytes
filled_field name = name ++ replicate (16 - length name) 0xA0
