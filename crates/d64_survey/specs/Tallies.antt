-- How often a block comes in a list of blocks.
use Rattle.std.specs.Prelude.{ℕ, nat_eq, length, filter}
use Rattle.d64_image.specs.Disk.{Blocks}

-- how often a block comes in a list of blocks
abbrev pub times : Blocks → ℕ → ℕ
times blocks block = length (filter (nat_eq block) blocks)
