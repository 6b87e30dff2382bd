-- The blocks that a file takes, one after another.
use Rattle.std.specs.Prelude.{ℕ, zero, suc, ◌==◌, ◌&&◌, not, Bool, [], ◌∷◌, Option, Some, find, count_by}
use Rattle.std.specs.Option.{option_map, option_and_then}
use Rattle.std.specs.FinSet as set
use Rattle.d64_image.specs.Disk.{Blocks}
use Rattle.d64_image.specs.BlockSet.{BlockSet}
use Rattle.d64_image.specs.Block.{pair_at}
use Rattle.d64_map.specs.Map.{blocks}
use Rattle.d64_map.specs.Search.{first_order, next_order}

-- the next n blocks after the last, each then no longer free; None if one isn't found
unfoldable pub plan_after : BlockSet → ℕ → ℕ → Option Blocks
plan_after free last zero = Some []
plan_after free last (suc count) =
    option_and_then (λ next. option_map (λ rest. next ∷ rest) (plan_after (set.remove free next) next count)) (find (set.contains free) (next_order last))

-- a file's n blocks: a first one, then next ones
unfoldable pub plan : BlockSet → ℕ → Option Blocks
plan free zero = Some []
plan free (suc count) =
    option_and_then (λ first. option_map (λ rest. first ∷ rest) (plan_after (set.remove free first) first count)) (find (set.contains free) first_order)

-- whether files may take a block: outside track 18
abbrev pub is_outside : ℕ → Bool
is_outside block = not ((pair_at block).0 == 18)

-- how many of these blocks files may take
unfoldable pub room : BlockSet → ℕ
room free = count_by (λ block. set.contains free block && is_outside block) blocks
