-- The effect of commands on the view of a disk: what a case does not name stays as it was.
use Rattle.std.specs.Prelude.{ℕ, ◌-◌, true, false, not, if◌then◌else◌, List, [], ◌∷◌, ◌++◌, map, length, replicate, position, slice_index, slice_set, bytes_eq, unwrap_or, Bool, Option, Some, None}
use Rattle.std.specs.List.{flat_map}
use Rattle.d64_image.specs.Disk.{Disk, Bytes, Blocks}
use Rattle.d64_map.specs.Map.{map_block}
use Rattle.d64_files.specs.FileData.{data_along}
use Rattle.d64_files.specs.Name.{filled_field, name_in}
use Rattle.d64_files.specs.Slot.{field_of, size_of}
use Rattle.d64_effects.specs.Clear.{with_freed}
use Rattle.d64_effects.specs.Delete.{is_deleted_by}
use Rattle.d64_files.specs.Directory.{directory_start}
use Rattle.d64_effects.specs.Format.{free_when_formatted}
use Rattle.d64_effects.specs.Undelete.{cell_at, chain_left}
use Rattle.d64_effects.specs.View.{View, FileView}
use Rattle.d64_effects.specs.Validate.{all_but}
use Rattle.d64_effects.specs.Write.{taken_by, grown_by, blocks_without}
use Rattle.d64_files.specs.declared.kind.Kind.{Kind}

-- the view after a format of a disk of n blocks: the name and the id, eight unused slots in one
-- block, and all blocks free but two
unfoldable pub formatted_view : ℕ → Bytes → Bytes → View
formatted_view count name id = record {
  count = count;
  name = filled_field name;
  id = id;
  directory = directory_start ∷ [];
  slots = replicate 8 None;
  free = free_when_formatted count;
}

-- a new file: closed, not locked, in the blocks that it took
abbrev pub new_file : Bytes → Kind → Bytes → Blocks → FileView
new_file name kind bytes taken = record {
  field = filled_field name;
  kind = kind;
  closed = true;
  locked = false;
  size = length taken;
  blocks = taken;
  side_blocks = [];
  content = bytes;
}

-- whether a slot is unused
abbrev pub is_vacant : Option FileView → Bool
is_vacant None = true
is_vacant (Some file) = false

-- slots with a file at the place of an unused one, or in the first of eight more
abbrev pub slots_with : List (Option FileView) → Option ℕ → FileView → List (Option FileView)
slots_with slots (Some place) file = slice_set slots place (Some file)
slots_with slots None file = slots ++ (Some file ∷ replicate 7 None)

-- the view after a file is written into these blocks, while the directory takes those: the first
-- unused slot has it
abbrev pub view_with : View → Option ℕ → FileView → Blocks → Blocks → View
view_with old vacant file taken grown = record old {
  directory = old.directory ++ grown;
  slots = slots_with old.slots vacant file;
  free = blocks_without old.free (taken ++ grown);
}

-- the number of the first unused slot
abbrev pub first_vacant : View → Option ℕ
first_vacant old = position is_vacant old.slots

-- the last block of the directory
abbrev pub last_of_directory : View → ℕ
last_of_directory old = slice_index old.directory (length old.directory - 1)

-- the view after a file is written
unfoldable pub written_view : View → Bytes → Kind → Bytes → View
written_view old name kind bytes =
    view_with old (first_vacant old) (new_file name kind bytes (taken_by old.free (length bytes)))
    (taken_by old.free (length bytes)) (grown_by old.free (last_of_directory old) (first_vacant old))

-- a slot that becomes unused if its file passes a test
abbrev pub emptied_if : (FileView → Bool) → Option FileView → Option FileView
emptied_if goes None = None
emptied_if goes (Some file) = if goes file then None else Some file

-- the chain and the side chain of a slot's file, if it passes a test
abbrev pub blocks_if : (FileView → Bool) → Option FileView → Blocks
blocks_if goes None = []
blocks_if goes (Some file) = if goes file then file.blocks ++ file.side_blocks else []

-- whether patterns delete a file
abbrev pub is_scratched_file : List Bytes → FileView → Bool
is_scratched_file patterns file = is_deleted_by patterns file.closed file.locked (name_in file.field)

-- the view after the files are deleted that patterns match: their slots are unused, and their
-- blocks are free
unfoldable pub scratched_view : View → List Bytes → View
scratched_view old patterns = record old {
  slots = map (emptied_if (is_scratched_file patterns)) old.slots;
  free = with_freed old.free (flat_map (blocks_if (is_scratched_file patterns)) old.slots);
}

-- a file with another name
abbrev pub with_field : FileView → Bytes → FileView
with_field file name = record file { field = filled_field name }

-- slots in which the first file of a name gets another
abbrev pub renamed_slots : List (Option FileView) → Bytes → Bytes → List (Option FileView)
renamed_slots [] old new = []
renamed_slots (None ∷ slots) old new = None ∷ renamed_slots slots old new
renamed_slots (Some file ∷ slots) old new =
    if bytes_eq (name_in file.field) old then Some (with_field file new) ∷ slots else Some file ∷ renamed_slots slots old new

-- the view after the first file of a name is renamed
unfoldable pub renamed_view : View → Bytes → Bytes → View
renamed_view shown old new = record shown { slots = renamed_slots shown.slots old new }

-- the view after the disk gets another name, and another id, if one is given
unfoldable pub named_view : View → Bytes → Option Bytes → View
named_view old name id = record old { name = filled_field name; id = unwrap_or id old.id }

-- a file that comes back: closed, not locked, with the name, the size and the chain that its slot
-- still has
abbrev pub file_back : Disk → ℕ → Kind → FileView
file_back image slot kind = record {
  field = field_of (cell_at image slot);
  kind = kind;
  closed = true;
  locked = false;
  size = size_of (cell_at image slot);
  blocks = chain_left image slot;
  side_blocks = [];
  content = data_along image (chain_left image slot);
}

-- the view after a deleted file comes back, which the image still has, and the view no longer shows
unfoldable pub undeleted_view : Disk → View → ℕ → Kind → View
undeleted_view image old slot kind = record old {
  slots = slice_set old.slots slot (Some (file_back image slot kind));
  free = blocks_without old.free (chain_left image slot);
}

-- the blocks that a disk owns: the map's, the directory's, and those of its files
abbrev pub view_blocks_owned : View → Blocks
view_blocks_owned shown = map_block ∷ (shown.directory ++ flat_map (blocks_if (λ file. true)) shown.slots)

-- the view after a validation: the slots of unclosed files are unused, and exactly the blocks are
-- free that have no owner
unfoldable pub validated_view : View → View
validated_view old = record old {
  slots = map (emptied_if (λ file. not file.closed)) old.slots;
  free = all_but old.count (view_blocks_owned old);
}
