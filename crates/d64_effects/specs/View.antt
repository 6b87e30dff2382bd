-- What a disk shows: its view. The view of a sound image has all that the image says of names,
-- files and free blocks.
use Rattle.std.specs.Prelude.{ℕ, Bool, if◌then◌else◌, List, [], length, map, Option, Some, None}
use Rattle.std.specs.List.{slice_get}
use Rattle.std.specs.Option.{option_map_or}
use Rattle.d64_image.specs.Disk.{Disk, Bytes, Blocks}
use Rattle.d64_image.specs.BlockSet.{BlockSet}
use Rattle.d64_map.specs.Map.{free_blocks}
use Rattle.d64_files.specs.Directory.{directory, slots, AllHold}
use Rattle.d64_files.specs.DiskHeader.{disk_field, disk_id}
use Rattle.d64_files.specs.FileData.{data_along}
use Rattle.d64_files.specs.Ownership.{roots, chain_at}
use Rattle.d64_files.specs.Slot.{is_used, is_closed, is_locked, kind_of, field_of, size_of}
use Rattle.d64_files.specs.declared.kind.Kind.{Kind}

-- a used slot of the directory: what it says of a file, and the file's blocks, side blocks and
-- content. A DEL entry and a file that isn't closed have none of these three
pub record FileView : Type 0 where
  pub field : Bytes
  pub kind : Kind
  pub closed : Bool
  pub locked : Bool
  pub size : ℕ
  pub blocks : Blocks
  pub side_blocks : Blocks
  pub content : Bytes

-- a disk: how many blocks it has, the 16 bytes of its name, its id, the directory's blocks in
-- order, its slots with None for an unused one, and the free blocks
pub record View : Type 0 where
  pub count : ℕ
  pub name : Bytes
  pub id : Bytes
  pub directory : Blocks
  pub slots : List (Option FileView)
  pub free : BlockSet

-- the chain from one of the roots of a slot; empty if there is no such root
abbrev pub chain_of_root : Disk → Bytes → ℕ → Blocks
chain_of_root image cell place = option_map_or (chain_at image) (slice_get (roots cell) place) []

-- the file of a slot
abbrev pub file_view : Disk → Bytes → FileView
file_view image cell = record {
  field = field_of cell;
  kind = kind_of cell;
  closed = is_closed cell;
  locked = is_locked cell;
  size = size_of cell;
  blocks = chain_of_root image cell 0;
  side_blocks = chain_of_root image cell 1;
  content = data_along image (chain_of_root image cell 0);
}

-- what a slot shows: None if it isn't used
unfoldable pub slot_view : Disk → Bytes → Option FileView
slot_view image cell = if is_used cell then Some (file_view image cell) else None

-- the view of an image
unfoldable pub view : Disk → View
view image = record {
  count = length image;
  name = disk_field image;
  id = disk_id image;
  directory = directory image;
  slots = map (slot_view image) (slots image);
  free = free_blocks image;
}

-- an image is sound if it meets all six conditions
abbrev pub IsSound : Disk → Type 0
IsSound image = AllHold image 1 6
