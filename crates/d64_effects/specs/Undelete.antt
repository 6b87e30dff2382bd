-- The image that bringing back a deleted file leaves, byte for byte.
use Rattle.std.specs.Prelude.{◌≡◌, ◌≢◌, ℕ, ◌<◌, true, false, [], length, All, slice_index_or}
use Rattle.std.specs.FinSet as set
use Rattle.d64_image.specs.Disk.{Disk, Bytes, Blocks}
use Rattle.d64_map.specs.Map.{free_blocks, with_map}
use Rattle.d64_files.specs.Clearing.{with_type}
use Rattle.d64_files.specs.Directory.{slots}
use Rattle.d64_files.specs.Ownership.{chain_at}
use Rattle.d64_files.specs.Slot.{is_used, first_pair}
use Rattle.d64_files.specs.declared.kind.Kind.{Kind}
use Rattle.d64_effects.specs.Write.{blocks_without}

-- the bytes of the slot of a number
abbrev pub cell_at : Disk → ℕ → Bytes
cell_at image slot = slice_index_or (slots image) slot []

-- its chain
abbrev pub chain_left : Disk → ℕ → Blocks
chain_left image slot = chain_at image (first_pair (cell_at image slot))

-- the image with a slot's file back, of this kind, its blocks no longer free
unfoldable pub undeleted_disk : Disk → ℕ → Kind → Disk
undeleted_disk image slot kind = with_map (with_type image slot kind) (blocks_without (free_blocks image) (chain_left image slot))

-- a slot's file can come back: the slot isn't used, there is a chain to which it leads, and all
-- blocks of that are free
pub record CanComeBack (image : Disk) (slot : ℕ) : Type 0 where
  pub there : slot < length (slots image)
  pub unused : is_used (cell_at image slot) ≡ false
  pub chain : chain_left image slot ≢ []
  pub free : All (λ block. set.contains (free_blocks image) block ≡ true) (chain_left image slot)
