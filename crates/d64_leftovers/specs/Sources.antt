-- What is walked for the rows of a dump.
use Rattle.std.specs.Prelude.{ℕ, List, drop, Option}
use Rattle.std.specs.List.{filter_map, slice_get}
use Rattle.std.specs.Option.{option_and_then}
use Rattle.d64_files.specs.Directory.{numbered_slots}
use Rattle.d64_survey.specs.Dump.{DumpView}
use Rattle.d64_survey.specs.Owners.{way_slots}
use Rattle.d64_survey.specs.Inspection.{slot_cell}
use Rattle.d64_leftovers.specs.Rows.{row_of_slot, row_of_left, blocks_wanted}
use Rattle.d64_leftovers.specs.declared.row.ListedRow.{ListedRow}
use Rattle.d64_leftovers.specs.declared.selection.Selection.{Selection}

-- a dump, and which rows of it are wanted
pub record SourceView : Type 0 where
  pub dump : DumpView
  pub wanted : Selection

-- the row of the slot of this number; None if the directory's way has no such slot, or the slot has
-- no row that is wanted
abbrev pub wanted_row_at : SourceView → ℕ → Option ListedRow
wanted_row_at source slot = option_and_then (λ cell. row_of_slot source.wanted source.dump (slot, cell)) (slot_cell source.dump.image slot)

-- the rows of the slots of the directory's way from a number on
abbrev pub wanted_rows_from : SourceView → ℕ → List ListedRow
wanted_rows_from source slot = filter_map (row_of_slot source.wanted source.dump) (drop slot (numbered_slots (way_slots source.dump.image)))

-- the row of the block at a place among those that are left and wanted, if it is a head
abbrev pub orphan_at : SourceView → ℕ → Option ListedRow
orphan_at source place = option_and_then (row_of_left source.dump) (slice_get (blocks_wanted source.wanted source.dump) place)

-- the rows of the blocks from a place on
abbrev pub orphans_from : SourceView → ℕ → List ListedRow
orphans_from source place = filter_map (row_of_left source.dump) (drop place (blocks_wanted source.wanted source.dump))
