-- The effect of the writers of files and entries.
use Rattle.std.specs.Prelude.{ℕ, ◌+◌, ◌-◌, ◌*◌, ◌/◌, ◌%◌, ◌==◌, not, if◌then◌else◌, List, [], ◌∷◌, ◌++◌, length, take, drop, replicate, position, slice_index, Option}
use Rattle.d64_image.specs.Disk.{Disk, Bytes, Blocks}
use Rattle.d64_image.specs.Block.{pair_at}
use Rattle.d64_image.specs.Image.{sector_at, with_sector}
use Rattle.d64_files.specs.Directory.{directory}
use Rattle.d64_files.specs.Name.{filled_field}
use Rattle.d64_files.specs.Slot.{is_used}
use Rattle.d64_files.specs.declared.kind.Kind.{Kind}
use Rattle.d64_files.specs.declared.kind.Kind.TheVariants.{Del, Seq, Prg, Usr, Rel}

-- the bytes with a part written over them, from start on
unfoldable pub written_at : Bytes → ℕ → Bytes → Bytes
written_at bytes start part = take start bytes ++ (part ++ drop (start + length part) bytes)

-- the same in a block of the image
abbrev pub with_bytes : Disk → ℕ → ℕ → Bytes → Disk
with_bytes image block start part = with_sector image block (written_at (sector_at image block) start part)

-- a block's track and sector, as bytes
abbrev pub pair_bytes : ℕ → Bytes
pair_bytes block = (pair_at block).0 ∷ (pair_at block).1 ∷ []

-- how many blocks hold a file's n bytes, at 254 each; at least one
abbrev pub blocks_for : ℕ → ℕ
blocks_for bytes = if bytes == 0 then 1 else (bytes + 253) / 254

-- a file's block before its last: the link to the next, and 254 bytes
abbrev pub linked_block : ℕ → Bytes → Bytes
linked_block next bytes = pair_bytes next ++ take 254 bytes

-- a file's last block: no link, the index of the last byte used, the data, zeros
abbrev pub last_block : Bytes → Bytes
last_block bytes = 0 ∷ (length bytes + 1) ∷ (bytes ++ replicate (254 - length bytes) 0)

-- the image with a file's data in these blocks, each linked to the next
unfoldable pub with_chain : Disk → Blocks → Bytes → Disk
with_chain image [] bytes = image
with_chain image (block ∷ []) bytes = with_sector image block (last_block bytes)
with_chain image (block ∷ next ∷ rest) bytes = with_chain (with_sector image block (linked_block next bytes)) (next ∷ rest) (drop 254 bytes)

abbrev pub number_of_kind : Kind → ℕ
number_of_kind Del = 0
number_of_kind Seq = 1
number_of_kind Prg = 2
number_of_kind Usr = 3
number_of_kind Rel = 4

-- a closed file's entry from the type byte on: kind, first block, name, no side blocks, size
unfoldable pub entry_bytes : Bytes → Kind → ℕ → ℕ → Bytes
entry_bytes name kind first blocks =
    (0x80 + number_of_kind kind) ∷ (pair_bytes first ++ filled_field name ++ replicate 9 0 ++ ((blocks % 256) ∷ (blocks / 256) ∷ []))

-- the number of the first unused slot
abbrev pub first_unused : List Bytes → Option ℕ
first_unused cells = position (λ cell. not (is_used cell)) cells

-- the directory's last block
abbrev pub dir_last : Disk → ℕ
dir_last image = slice_index (directory image) (length (directory image) - 1)

-- the directory's block that has a slot
abbrev pub slot_block : Disk → ℕ → ℕ
slot_block image slot = slice_index (directory image) (slot / 8)

-- the place of its type byte there
abbrev pub slot_start : ℕ → ℕ
slot_start slot = 32 * (slot % 8) + 2

-- the image with an entry in a slot
unfoldable pub with_entry : Disk → ℕ → Bytes → Disk
with_entry image slot entry = with_bytes image (slot_block image slot) (slot_start slot) entry

-- a directory's last block, with eight empty slots
unfoldable pub empty_directory : Bytes
empty_directory = 0x00 ∷ 0xFF ∷ replicate 254 0x00

-- the image with an empty block linked to the directory's end
unfoldable pub with_growth : Disk → ℕ → Disk
with_growth image new = with_sector (with_bytes image (dir_last image) 0 (pair_bytes new)) new empty_directory
