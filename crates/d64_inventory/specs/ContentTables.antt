-- The table of the contents along the ways from blocks.
use Rattle.std.specs.Prelude.{◌≡◌, ℕ, List, Option, Some, None, IfSome, slice_index_or}
use Rattle.std.specs.Option.{option_map_or}
use Rattle.d64_image.specs.Disk.{Disk}
use Rattle.d64_survey.specs.Way.{way, block_at}
use Rattle.d64_inventory.specs.Contents.{digested_along}
use Rattle.d64_inventory.specs.declared.row.Content.{Content}

-- what is kept for a block, if there is such a block
abbrev pub kept_content : List (Option Content) → Option ℕ → Option Content
kept_content contents block = option_map_or (λ block. slice_index_or contents block None) block None

-- what is kept for the first block of a way is the length and the digest of the content along it
abbrev pub RecordsContents : Disk → List (Option Content) → Type 0
RecordsContents image contents =
    (pair : ℕ × ℕ) → IfSome (kept_content contents (block_at image pair)) (λ content. Some content ≡ digested_along image (way image pair))
