-- The image after a file is written, byte for byte.
use Rattle.std.specs.Prelude.{ℕ, [], ◌∷◌, ◌++◌, length, fold, find, slice_index, Option, Some, None}
use Rattle.std.specs.Option.{option_map_or, option_to_list}
use Rattle.std.specs.FinSet as set
use Rattle.d64_image.specs.Disk.{Disk, Bytes, Blocks}
use Rattle.d64_image.specs.BlockSet.{BlockSet}
use Rattle.d64_map.specs.Map.{free_blocks, with_map}
use Rattle.d64_map.specs.Plan.{plan}
use Rattle.d64_map.specs.Search.{dir_order}
use Rattle.d64_files.specs.Directory.{slots}
use Rattle.d64_files.specs.Writing.{blocks_for, with_bytes, with_chain, entry_bytes, first_unused, dir_last, with_entry, with_growth}
use Rattle.d64_files.specs.declared.kind.Kind.{Kind}

-- the free blocks that a file of n bytes takes; empty without a plan
abbrev pub taken_by : BlockSet → ℕ → Blocks
taken_by free bytes = option_map_or (λ blocks. blocks) (plan free (blocks_for bytes)) []

-- the next block for a directory with this last block
abbrev pub next_of_directory : BlockSet → ℕ → Option ℕ
next_of_directory free last = find (set.contains free) (dir_order last)

-- the blocks for one more entry; no block if a slot is unused
abbrev pub grown_by : BlockSet → ℕ → Option ℕ → Blocks
grown_by free last (Some slot) = []
grown_by free last None = option_to_list (next_of_directory free last)

-- the same for an image
abbrev pub directory_grown : Disk → Blocks
directory_grown image = grown_by (free_blocks image) (dir_last image) (first_unused (slots image))

-- the free blocks without the taken ones
abbrev pub blocks_without : BlockSet → Blocks → BlockSet
blocks_without free taken = fold set.remove free taken

-- the image with an entry in its unused slot, else in the first of a new block
abbrev pub with_entry_in : Disk → Option ℕ → Blocks → Bytes → Disk
with_entry_in image (Some slot) grown entry = with_entry image slot entry
with_entry_in image None [] entry = image
with_entry_in image None (new ∷ grown) entry = with_bytes (with_growth image new) new 2 entry

unfoldable pub with_new_entry : Disk → Bytes → Disk
with_new_entry image entry = with_entry_in image (first_unused (slots image)) (directory_grown image) entry

-- the image with a file in these blocks: its entry, its data, and the map without what it took
unfoldable pub with_file : Disk → Bytes → Kind → Bytes → Blocks → Disk
with_file image name kind bytes taken =
    with_map (with_chain (with_new_entry image (entry_bytes name kind (slice_index taken 0) (length taken))) taken bytes)
    (blocks_without (free_blocks image) (taken ++ directory_grown image))

unfoldable pub written_disk : Disk → Bytes → Kind → Bytes → Disk
written_disk image name kind bytes = with_file image name kind bytes (taken_by (free_blocks image) (length bytes))
