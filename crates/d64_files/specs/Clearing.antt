-- The effect of the writers that change a slot of the directory in place.
use Rattle.std.specs.Prelude.{ℕ, ◌+◌, [], ◌∷◌}
use Rattle.d64_image.specs.Disk.{Disk, Bytes}
use Rattle.d64_files.specs.Name.{filled_field}
use Rattle.d64_files.specs.Writing.{with_bytes, slot_block, slot_start, number_of_kind}
use Rattle.d64_files.specs.declared.kind.Kind.{Kind}

-- the image with a slot unused: its type byte is 0, all else stays
unfoldable pub with_cleared_slot : Disk → ℕ → Disk
with_cleared_slot image slot = with_bytes image (slot_block image slot) (slot_start slot) (0 ∷ [])

-- the image with another name in a slot, three bytes after its type byte
unfoldable pub with_name : Disk → ℕ → Bytes → Disk
with_name image slot name = with_bytes image (slot_block image slot) (slot_start slot + 3) (filled_field name)

-- the type byte of a closed file that isn't locked
abbrev pub closed_type : Kind → ℕ
closed_type kind = 0x80 + number_of_kind kind

-- the image with a slot's file closed and of this kind
unfoldable pub with_type : Disk → ℕ → Kind → Disk
with_type image slot kind = with_bytes image (slot_block image slot) (slot_start slot) (closed_type kind ∷ [])
