-- The beginning of the explanation of a refused line of a script.
use Rattle.std.specs.Prelude.{ℕ, ◌++◌, codes, decimal}
use Rattle.d64_image.specs.Disk.{Bytes}
use Rattle.host_storage.specs.Shown.{shown_name}
use Rattle.out_messages.specs.ShownStart.{shown_start}

-- a line as it is shown: as the name of a host file is
abbrev pub shown_raw_line : Bytes → Bytes
shown_raw_line text = shown_name text

-- the beginning of the explanation of the line with this number and text: the number of the line,
-- and its first characters
unfoldable pub line_start : ℕ → Bytes → Bytes
line_start number text = codes "d64sh: line " ++ (decimal number ++ (codes ": " ++ (shown_start text ++ codes ": ")))
