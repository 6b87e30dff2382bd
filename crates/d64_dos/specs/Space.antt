-- What a new file takes of an image: blocks for its data, and a place for its entry.
use Rattle.std.specs.Prelude.{◌≡◌, ℕ, ◌%◌, [], ◌∷◌, ◌++◌, Some, None, MatchOption}
use Rattle.d64_image.specs.Disk.{Disk, Blocks}
use Rattle.d64_image.specs.BlockSet.{BlockSet}
use Rattle.d64_map.specs.Map.{free_blocks}
use Rattle.d64_map.specs.Plan.{plan}
use Rattle.d64_files.specs.Directory.{slots}
use Rattle.d64_files.specs.Writing.{blocks_for, first_unused, dir_last, slot_block}
use Rattle.d64_effects.specs.Write.{next_of_directory, blocks_without}
use Rattle.d64_dos.specs.declared.write.Place.{Place}
use Rattle.d64_dos.specs.declared.write.Place.TheVariants.{Vacant, New}
use Rattle.d64_dos.specs.declared.write.Space.{Space}

-- a slot is in a block of the directory, and is this one of its eight
abbrev pub HoldsSlot : Disk → ℕ → ℕ → ℕ → Type 0
HoldsSlot image block index slot = (block ≡ slot_block image slot) × (index ≡ slot % 8)

-- the place of a new entry: the first unused slot, or if all are used the first slot of the block
-- that the directory takes after its last one
abbrev pub IsPlace : Disk → BlockSet → Place → Type 0
IsPlace image free (Vacant block index) = MatchOption (first_unused (slots image)) ⊥ (HoldsSlot image block index)
IsPlace image free (New last block) =
    (first_unused (slots image) ≡ None) × (last ≡ dir_last image) × (next_of_directory free (dir_last image) ≡ Some block)

-- there is no place for one more entry
abbrev pub NoPlace : Disk → BlockSet → Type 0
NoPlace image free = (first_unused (slots image) ≡ None) × (next_of_directory free (dir_last image) ≡ None)

-- the blocks that the directory takes for the place of an entry
abbrev pub grown_at : Place → Blocks
grown_at (Vacant block index) = []
grown_at (New last block) = block ∷ []

-- what a new file of n bytes takes: the blocks of its data, the place of its entry, and the blocks
-- that stay free
pub record IsSpace (image : Disk) (bytes : ℕ) (blocks : Blocks) (space : Space) : Type 0 where
  pub taken : plan (free_blocks image) (blocks_for bytes) ≡ Some blocks
  pub place : IsPlace image (free_blocks image) space.place
  pub left : space.free ≡ blocks_without (free_blocks image) (blocks ++ grown_at space.place)
