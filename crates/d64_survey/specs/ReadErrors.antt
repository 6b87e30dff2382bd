-- The read errors of a dump.
use Rattle.std.specs.Prelude.{ℕ, if◌then◌else◌, List, [], ◌∷◌, length, slice_index, Option}
use Rattle.std.specs.List.{flat_map, range_with_len}
use Rattle.std.specs.Option.{option_map_or}
use Rattle.d64_image.specs.Disk.{Bytes}
use Rattle.d64_survey.specs.Dump.{DumpView, is_read_error}
use Rattle.d64_survey.specs.declared.read_error.ReadError.{ReadError}

-- the read code of a block; 0, which is no error, if there are no codes
abbrev pub code_of : Option Bytes → ℕ → ℕ
code_of codes block = option_map_or (λ codes. slice_index codes block) codes 0

-- a list of the block and its code if that is a read error, and else the empty list
abbrev pub read_error_at : Option Bytes → ℕ → List ReadError
read_error_at codes block = if is_read_error (code_of codes block) then record { block = block; code = code_of codes block } ∷ [] else []

-- the read errors of a dump, one for each block of the image whose code is one, ascending
unfoldable pub read_errors : DumpView → List ReadError
read_errors dump = flat_map (read_error_at dump.codes) (range_with_len 0 (length dump.image))
