-- The list of a disk's directory.
use Rattle.std.specs.Prelude.{◌≡◌, ℕ, Bool, List, [], ◌∷◌, map, filter, slice_range}
use Rattle.d64_image.specs.Disk.{Disk, Bytes}
use Rattle.d64_image.specs.Image.{IsSize, sector_at}
use Rattle.d64_map.specs.Map.{map_block, blocks_free}
use Rattle.d64_files.specs.Directory.{slots}
use Rattle.d64_files.specs.Name.{IsName, name_in}
use Rattle.d64_files.specs.Slot.{EntryView, is_used, name_of, is_closed, is_locked, kind_of, size_of}
use Rattle.d64_files.specs.declared.kind.Kind.{Kind}
use Rattle.d64_effects.specs.Format.{formatted_disk}
use Rattle.d64_effects.specs.Laws.{AreTwoBytes, free_count_of}
use Rattle.d64_files.specs.DiskHeader.{disk_field, disk_id}
use Rattle.d64_dos.specs.declared.row.Row.{Row}
use Rattle.d64_dos.specs.declared.row.Listing.{Listing}

-- a row of the directory
pub record RowView : Type 0 where
  pub blocks : ℕ
  pub name : Bytes
  pub closed : Bool
  pub kind : Kind
  pub locked : Bool

-- a directory: the disk's name, id and DOS version, a row for each used slot, and the number of
-- free blocks that it shows
pub record ListingView : Type 0 where
  pub name : Bytes
  pub id : Bytes
  pub dos : Bytes
  pub rows : List RowView
  pub free : ℕ

-- the row of a slot
abbrev pub listed_row_of : Bytes → RowView
listed_row_of cell = record { blocks = size_of cell; name = name_of cell; closed = is_closed cell; kind = kind_of cell; locked = is_locked cell }

-- the rows of the used entries
abbrev pub rows_of : List EntryView → List RowView
rows_of walk = map (λ (entry : EntryView). listed_row_of entry.bytes) (filter (λ (entry : EntryView). is_used entry.bytes) walk)

-- the list of an image's directory
unfoldable pub listing_of : Disk → ListingView
listing_of image = record {
  name = name_in (disk_field image);
  id = disk_id image;
  dos = slice_range (sector_at image map_block) 0xA5 0xA7;
  rows = map listed_row_of (filter is_used (slots image));
  free = blocks_free image;
}

-- the row of the code as one of the definitions
abbrev pub shown_row : Row → RowView
shown_row row = record { blocks = row.blocks; name = row.name.items; closed = row.closed; kind = row.kind; locked = row.locked }

-- the listing of the code as one of the definitions
abbrev pub shown_listing : Listing → ListingView
shown_listing listing = record {
  name = listing.name.items;
  id = listing.id;
  dos = listing.dos;
  rows = map shown_row listing.rows.items;
  free = listing.free;
}

-- a formatted disk lists its name, its id, the DOS version `2A`, no file, and all blocks outside
-- track 18 free
abbrev pub FormattedDiskLists : Type 0
FormattedDiskLists =
    (count : ℕ) (name id : Bytes) → IsSize count → IsName name → AreTwoBytes id
    → listing_of (formatted_disk count name id) ≡ record { name = name; id = id; dos = 0x32 ∷ 0x41 ∷ []; rows = []; free = free_count_of count }
