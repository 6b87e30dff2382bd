-- The way along the links of blocks from a pair of track and sector: its blocks, and how it ends.
use Rattle.std.specs.Prelude.{ℕ, zero, suc, ◌==◌, nat_eq, Bool, true, false, if◌then◌else◌, [], ◌∷◌, ◌++◌, length, Option, Some, None}
use Rattle.std.specs.List.{list_any}
use Rattle.d64_image.specs.Disk.{Disk, Blocks}
use Rattle.d64_files.specs.Chain.{block_in, link_at}
use Rattle.d64_survey.specs.declared.way_end.WayEnd.{WayEnd}
use Rattle.d64_survey.specs.declared.way_end.WayEnd.TheVariants.{End, Off, Loop}

-- whether a way ends after a last block
abbrev pub is_whole : WayEnd → Bool
is_whole End = true
is_whole (Off track sector) = false
is_whole (Loop track sector) = false

-- the block of a pair of track and sector; None if the image has no such block
abbrev pub block_at : Disk → ℕ × ℕ → Option ℕ
block_at image pair = block_in image pair.0 pair.1

-- the way that has these blocks already, and goes on from a pair and its block, with n blocks of
-- the image left: it ends if the image has no such block, if that block is in the way already, as
-- each one is if no block is left, and after a block whose link has track 0
unfoldable pub way_on : ℕ → Disk → Blocks → ℕ × ℕ → Option ℕ → Blocks × WayEnd
way_on left image walked pair None = (walked, Off pair.0 pair.1)
way_on zero image walked pair (Some block) = (walked, Loop pair.0 pair.1)
way_on (suc left) image walked pair (Some block) =
    if list_any (nat_eq block) walked then (walked, Loop pair.0 pair.1)
    else if (link_at image block).0 == 0 then (walked ++ block ∷ [], End)
    else way_on left image (walked ++ block ∷ []) (link_at image block) (block_at image (link_at image block))

-- the way from a pair: its blocks, and how it ends
unfoldable pub way : Disk → ℕ × ℕ → Blocks × WayEnd
way image pair = way_on (length image) image [] pair (block_at image pair)
