-- The rows of a dump: those of the files that are there, of deleted files, and of orphans, in one
-- list.
use Rattle.std.specs.Prelude.{◌≡◌, ℕ, ◌&&◌, Bool, true, false, if◌then◌else◌, List, [], ◌++◌, map, Option, Some, None}
use Rattle.std.specs.List.{filter_map}
use Rattle.std.specs.Option.{option_and_then}
use Rattle.d64_image.specs.Disk.{Bytes, Blocks}
use Rattle.d64_files.specs.Directory.{numbered_slots}
use Rattle.d64_files.specs.Slot.{is_used}
use Rattle.d64_survey.specs.Dump.{DumpView}
use Rattle.d64_survey.specs.Owners.{way_slots}
use Rattle.d64_survey.specs.Inspection.{slot_cell}
use Rattle.d64_scratched.specs.Scratched.{is_scratched}
use Rattle.d64_inventory.specs.Rows.{file_row_of, rows as file_rows}
use Rattle.d64_leftovers.specs.Deleted.{deleted_row}
use Rattle.d64_leftovers.specs.Orphans.{is_head, left_blocks, orphan_row}
use Rattle.d64_leftovers.specs.declared.row.ListedRow.{ListedRow}
use Rattle.d64_leftovers.specs.declared.row.ListedRow.TheVariants.{File, Deleted, Orphan}
use Rattle.d64_leftovers.specs.declared.selection.Selection.{Selection}

-- the file was deleted
abbrev pub is_deleted : ListedRow → Bool
is_deleted (File row) = false
is_deleted (Deleted row) = true
is_deleted (Orphan row) = false

-- it is that of an orphan
abbrev pub is_orphan : ListedRow → Bool
is_orphan (File row) = false
is_orphan (Deleted row) = false
is_orphan (Orphan row) = true

-- the row of a numbered slot of a dump: that of its file, if it is used, and that of a deleted
-- one, if it is scratched; None if it is neither, or that isn't wanted
abbrev pub row_of_slot : Selection → DumpView → ℕ × Bytes → Option ListedRow
row_of_slot wanted dump slot =
    if is_used slot.1 then (if wanted.files then Some (File (file_row_of dump slot)) else None)
    else (if wanted.deleted && is_scratched slot.1 then Some (Deleted (deleted_row dump slot)) else None)

-- the row of a block of a dump that is left: that of the orphan whose head it is, if it is one
abbrev pub row_of_left : DumpView → ℕ → Option ListedRow
row_of_left dump block = if is_head dump.image block then Some (Orphan (orphan_row dump block)) else None

-- the blocks that are left, where orphans are wanted
abbrev pub blocks_wanted : Selection → DumpView → Blocks
blocks_wanted wanted dump = if wanted.orphans then left_blocks dump.image else []

-- the rows of a dump that are wanted: those of all slots of the directory's way, in their order, and
-- then those of orphans by their heads, rising
unfoldable pub wanted_rows : Selection → DumpView → List ListedRow
wanted_rows wanted dump =
    filter_map (row_of_slot wanted dump) (numbered_slots (way_slots dump.image)) ++ filter_map (row_of_left dump) (blocks_wanted wanted dump)

-- where files alone are wanted, these are the rows of the inventory
abbrev pub FilesAloneAreTheInventory : Type 0
FilesAloneAreTheInventory = (dump : DumpView) → wanted_rows (record { files = true; deleted = false; orphans = false }) dump ≡ map File (file_rows dump)
