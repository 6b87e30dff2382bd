-- A slot of the directory: its 32 bytes, and what they say of a file.
use Rattle.std.specs.Prelude.{ℕ, ◌+◌, ◌*◌, ◌%◌, ◌^◌, ◌≤◌, ◌==◌, nat_le, Bool, not, if◌then◌else◌, List, [], ◌∷◌, map, take, drop, slice_index, slice_index_or, slice_range, bit_and, Option, Some, None}
use Rattle.std.specs.List.{range_with_len}
use Rattle.d64_image.specs.Disk.{Disk, Bytes}
use Rattle.d64_files.specs.Name.{name_in}
use Rattle.d64_files.specs.declared.kind.Kind.{Kind}
use Rattle.d64_files.specs.declared.kind.Kind.TheVariants.{Del, Seq, Prg, Usr, Rel}

-- an entry of a directory: the number of its slot, from 0, the 32 bytes there, and the image
pub record EntryView : Type 0 where
  pub slot : ℕ
  pub bytes : Bytes
  pub image : Disk

-- the bytes of a slot
abbrev pub cell : Bytes → ℕ → Bytes
cell bytes index = take 32 (drop (32 * index) bytes)

-- a block's eight slots
unfoldable pub cells : Bytes → List Bytes
cells bytes = map (cell bytes) (range_with_len 0 8)

abbrev pub type_byte : Bytes → ℕ
type_byte cell = slice_index cell 2

-- whether a bit is 1
abbrev pub has_bit : ℕ → ℕ → Bool
has_bit byte bit = not (bit_and byte (2 ^ bit) == 0)

abbrev pub is_used : Bytes → Bool
is_used cell = not (type_byte cell == 0)

-- the low four bits of the type byte
abbrev pub kind_number : Bytes → ℕ
kind_number cell = type_byte cell % 16

-- there is a kind with the number in a slot
abbrev pub HasKind : Bytes → Type 0
HasKind cell = kind_number cell ≤ 4

-- whether that number is a kind's
abbrev pub has_kind : Bytes → Bool
has_kind cell = nat_le (kind_number cell) 4

-- in the order of their numbers
abbrev pub kinds : List Kind
kinds = Del ∷ Seq ∷ Prg ∷ Usr ∷ Rel ∷ []

abbrev pub kind_of : Bytes → Kind
kind_of cell = slice_index_or kinds (kind_number cell) Del

abbrev pub is_locked : Bytes → Bool
is_locked cell = has_bit (type_byte cell) 6

abbrev pub is_closed : Bytes → Bool
is_closed cell = has_bit (type_byte cell) 7

-- the track and sector of the first block
abbrev pub first_pair : Bytes → ℕ × ℕ
first_pair cell = (slice_index cell 3, slice_index cell 4)

-- the name's field of 16 bytes
abbrev pub field_of : Bytes → Bytes
field_of cell = slice_range cell 5 21

abbrev pub name_of : Bytes → Bytes
name_of cell = name_in (field_of cell)

-- the first side block's track and sector, unless the track is 0
abbrev pub side_pair : Bytes → Option (ℕ × ℕ)
side_pair cell = if slice_index cell 0x15 == 0 then None else Some (slice_index cell 0x15, slice_index cell 0x16)

-- the length of a REL file's records
abbrev pub record_length : Bytes → ℕ
record_length cell = slice_index cell 0x17

-- the type of a GEOS file, and 0 for other files
abbrev pub geos_type : Bytes → ℕ
geos_type cell = slice_index cell 0x18

-- the shown size in blocks
abbrev pub size_of : Bytes → ℕ
size_of cell = slice_index cell 0x1E + 256 * slice_index cell 0x1F
