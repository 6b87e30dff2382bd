-- Chains of blocks: bytes 0 and 1 of a block link it to the next.
use Rattle.std.specs.Prelude.{◌≡◌, ℕ, zero, suc, ◌<◌, ◌==◌, nat_eq, nat_lt, false, if◌then◌else◌, [], ◌∷◌, All, length, slice_index, Option, Some, None}
use Rattle.std.specs.List.{list_any}
use Rattle.std.specs.Option.{option_and_then, option_map_or}
use Rattle.d64_image.specs.Disk.{Disk, Blocks}
use Rattle.d64_image.specs.Block.{block_of}
use Rattle.d64_image.specs.Image.{sector_at}
use Rattle.d64_files.specs.declared.chain.Link.{Link}
use Rattle.d64_files.specs.declared.chain.Link.TheVariants.{End, To, Broken}

-- a block's link: the track and sector in bytes 0 and 1
abbrev pub link_at : Disk → ℕ → ℕ × ℕ
link_at image block = (slice_index (sector_at image block) 0, slice_index (sector_at image block) 1)

-- the block, if the image has it
abbrev pub held_block : Disk → ℕ → Option ℕ
held_block image block = if nat_lt block (length image) then Some block else None

-- the image has each of these blocks
abbrev pub LieIn : Disk → Blocks → Type 0
LieIn image blocks = All (λ block. block < length image) blocks

-- the block of a track and sector, if the image has it
unfoldable pub block_in : Disk → ℕ → ℕ → Option ℕ
block_in image track sector = option_and_then (held_block image) (block_of track sector)

-- a link to a block, broken without one
abbrev pub link_to : Option ℕ → Link
link_to None = Broken
link_to (Some block) = To block

-- where a link leads: track 0 ends the chain, others lead to their block
unfoldable pub led_by : Disk → ℕ × ℕ → Link
led_by image link = if link.0 == 0 then End else link_to (block_in image link.0 link.1)

-- where a block's link leads
abbrev pub link_of : Disk → ℕ → Link
link_of image block = led_by image (link_at image block)

-- the list is the chain from a block that the image has: that block alone, if its link ends the
-- chain, or that block and then the chain from the block to which its link leads, if it isn't in
-- that chain
unfoldable pub Chain : Disk → ℕ → Blocks → Type 0
Chain image start [] = ⊥
Chain image start (block ∷ []) = (block ≡ start) × (start < length image) × (link_of image start ≡ End)
Chain image start (block ∷ next ∷ rest) =
    (block ≡ start) × (start < length image) × (link_of image start ≡ To next) × Chain image next (next ∷ rest) × (list_any (nat_eq start) (next ∷ rest) ≡ false)

-- a block and the chain behind it; empty if the chain is, or has the block
abbrev pub chain_behind : ℕ → Blocks → Blocks
chain_behind block [] = []
chain_behind block (next ∷ rest) = if list_any (nat_eq block) (next ∷ rest) then [] else block ∷ next ∷ rest

-- the chain from a block with this link, over at most n links; else empty
unfoldable pub chain_by : ℕ → Disk → ℕ → Link → Blocks
chain_by links image block End = block ∷ []
chain_by links image block Broken = []
chain_by zero image block (To next) = []
chain_by (suc links) image block (To next) = chain_behind block (chain_by links image next (link_of image next))

-- the chain from a block, or the empty list
unfoldable pub chain : Disk → ℕ → Blocks
chain image start = if nat_lt start (length image) then chain_by (length image) image start (link_of image start) else []

-- the same from a track and sector
abbrev pub chain_from : Disk → ℕ → ℕ → Blocks
chain_from image track sector = option_map_or (chain image) (block_in image track sector) []
