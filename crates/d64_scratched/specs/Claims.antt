-- The lowest number of the scratched slots whose ways have a block, in a table.
use Rattle.std.specs.Prelude.{◌≡◌, ℕ, ◌<◌, ◌≤◌, ◌*◌, ◌&&◌, ◌||◌, nat_lt, nat_eq, slice_index_or}
use Rattle.std.specs.List.{list_any}
use Rattle.d64_image.specs.Disk.{Disk, Blocks}
use Rattle.d64_image.specs.declared.block.TheConstants.{BLOCKS}
use Rattle.d64_scratched.specs.Scratched.{is_claimed_below}
use Rattle.d64_scratched.specs.declared.lowest.LowestSlots.{LowestSlots}

-- the number in the table for a block
abbrev pub lowest_of : LowestSlots → ℕ → ℕ
lowest_of table block = slice_index_or table.lowest block 0

-- the second table is the first, with this slot noted for these blocks
abbrev pub Lowers : LowestSlots → Blocks → ℕ → LowestSlots → Type 0
Lowers old blocks slot new =
    (block number : ℕ)
    → block < BLOCKS
    → nat_lt (lowest_of new block) number ≡ (nat_lt (lowest_of old block) number || (list_any (nat_eq block) blocks && nat_lt slot number))

-- the table says for each block whether it is in the way of a scratched slot below a number
abbrev pub RecordsClaims : Disk → LowestSlots → Type 0
RecordsClaims image table =
    (block slot : ℕ) → block < BLOCKS → slot ≤ 8 * BLOCKS → nat_lt (lowest_of table block) slot ≡ is_claimed_below image slot block
