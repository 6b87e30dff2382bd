-- The file that a pattern finds, and whether its name can be that of a host file.
use Rattle.std.specs.Prelude.{ℕ, nat_lt, ◌==◌, ◌&&◌, not, Bool, [], length, codes, bytes_eq}
use Rattle.d64_image.specs.Disk.{Bytes, Disk}
use Rattle.std.specs.List.{list_any}
use Rattle.std.specs.Option.{option_map_or}
use Rattle.d64_files.specs.Directory.{slots, first_named}
use Rattle.d64_files.specs.Reading.{content_at}
use Rattle.d64_dos.specs.Reading.{name_at}

-- the name of the first used slot that the pattern matches, or empty
abbrev pub found_name : Disk → Bytes → Bytes
found_name image pattern = option_map_or (name_at image) (first_named pattern (slots image)) []

-- the content of that slot
abbrev pub found_content : Disk → Bytes → Bytes
found_content image pattern = option_map_or (content_at image) (first_named pattern (slots image)) []

-- `/`
abbrev pub path_separator : ℕ
path_separator = 47

-- whether a text can name a host file: not empty, not `.` or `..`, and without `/`
unfoldable pub can_name_file : Bytes → Bool
can_name_file text =
    nat_lt 0 (length text) && not (bytes_eq text (codes ".")) && not (bytes_eq text (codes "..")) && not (list_any (λ byte. byte == path_separator) text)
