-- The order in which the blocks of a new file are searched.
use Rattle.std.specs.Prelude.{ℕ, Option, Some, None}
use Rattle.d64_image.specs.Disk.{Blocks}
use Rattle.d64_map.specs.Search.{first_order, next_order}

-- the order after the block that was taken last, or for the first one
abbrev pub order_after : Option ℕ → Blocks
order_after None = first_order
order_after (Some last) = next_order last
