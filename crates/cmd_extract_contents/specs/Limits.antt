-- How much is written of an image.
use Rattle.std.specs.Prelude.{ℕ, ◌-◌, nat_le, if◌then◌else◌, List, [], ◌∷◌, length, sum_by, Option, Some, None, is_some}
use Rattle.std.specs.Option.{option_map_or}
use Rattle.cmd_extract_contents.specs.Portions.{Portion}

-- the most bytes that the files of an image may have together
abbrev pub limit : ℕ
limit = 16777216

-- how many bytes later files may have after one with this many; None if this one is too much, or an
-- earlier one was
abbrev pub remaining_bytes : Option ℕ → ℕ → Option ℕ
remaining_bytes None count = None
remaining_bytes (Some left) count = if nat_le count left then Some (left - count) else None

-- the same after what there is to write of a file, if anything
abbrev pub left_after : Option ℕ → Option Portion → Option ℕ
left_after left None = left
left_after left (Some portion) = remaining_bytes left (length portion.bytes)

-- what is written, of what there is to write of a file: None if that is too much
abbrev pub portion_within : Option ℕ → Option Portion → Option Portion
portion_within left portion = if is_some (left_after left portion) then portion else None

-- what is written, of what there is to write of files, one after another, if they may have `left`
-- bytes in all
unfoldable pub written_portions : Option ℕ → List (Option Portion) → List (Option Portion)
written_portions left [] = []
written_portions left (portion ∷ portions) = portion_within left portion ∷ written_portions (left_after left portion) portions

-- how many bytes are written of a file
abbrev pub byte_count : Option Portion → ℕ
byte_count portion = option_map_or (λ (portion : Portion). length portion.bytes) portion 0

-- how many are written of files
abbrev pub byte_counts : List (Option Portion) → ℕ
byte_counts portions = sum_by byte_count portions
