-- The row of a used slot and its file.
use Rattle.std.specs.Prelude.{ℕ, Bool, if◌then◌else◌, List, map, filter, drop, count_by, length, nat_eq, Option, Some, None, option_map}
use Rattle.std.specs.List.{list_any}
use Rattle.std.specs.Option.{option_and_then}
use Rattle.d64_image.specs.Disk.{Disk, Bytes}
use Rattle.d64_files.specs.Directory.{numbered_slots}
use Rattle.d64_files.specs.Slot.{type_byte, has_kind, kind_of, is_used, is_closed, is_locked, size_of, first_pair, field_of, record_length}
use Rattle.d64_files.specs.declared.kind.Kind.{Kind}
use Rattle.d64_files.specs.declared.kind.Kind.TheVariants.{Rel}
use Rattle.d64_survey.specs.Dump.{DumpView}
use Rattle.d64_survey.specs.ReadErrors.{read_errors}
use Rattle.d64_survey.specs.Way.{way}
use Rattle.d64_survey.specs.Owners.{pair_of, way_slots}
use Rattle.d64_survey.specs.SlotBlocks.{slot_blocks}
use Rattle.d64_survey.specs.Flaws.{why, wholeness}
use Rattle.d64_survey.specs.Inspection.{slot_cell}
use Rattle.d64_survey.specs.declared.flaw.Flaw.{Flaw}
use Rattle.d64_survey.specs.declared.owner.Part.{Part}
use Rattle.d64_survey.specs.declared.owner.Part.TheVariants.{Data, Side}
use Rattle.d64_survey.specs.declared.read_error.ReadError.{ReadError}
use Rattle.d64_inventory.specs.Contents.{content_of, digested_content}
use Rattle.d64_inventory.specs.Conditions.{conditions}
use Rattle.d64_inventory.specs.declared.row.Content.{Content}

-- what a row has
pub record FileRowView : Type 0 where
  pub slot : ℕ
  pub field : Bytes
  pub kind : Option Kind
  pub type_byte : ℕ
  pub closed : Bool
  pub locked : Bool
  pub size : ℕ
  pub first : ℕ × ℕ
  pub record_length : Option ℕ
  pub blocks : Option ℕ
  pub side : Option ℕ
  pub content : Option Content
  pub whole : Option Bool
  pub why : List Flaw
  pub conditions : List ℕ
  pub read_errors : ℕ

-- the kind of a slot; None if its number is that of no kind
abbrev pub known_kind : Bytes → Option Kind
known_kind cell = if has_kind cell then Some (kind_of cell) else None

-- the length of a record of a slot of this kind: the byte $17 if the kind is REL, else None
abbrev pub record_length_by : Kind → Bytes → Option ℕ
record_length_by Rel cell = Some (record_length cell)
record_length_by kind cell = None

-- how many blocks the way of a part of a slot's file has; None if there is no such part
abbrev pub way_length : Disk → Bytes → Part → Option ℕ
way_length image cell part = option_map (λ pair. length (way image pair).0) (pair_of part cell)

-- whether a block is one of those of a slot's file
abbrev pub is_of_file : Disk → Bytes → ℕ → Bool
is_of_file image cell block = list_any (nat_eq block) (slot_blocks image cell)

-- how many of the read errors of a dump are in blocks of a slot's file
abbrev pub error_count : DumpView → Bytes → ℕ
error_count dump cell = count_by (λ (error : ReadError). is_of_file dump.image cell error.block) (read_errors dump)

-- the row of a numbered slot of a dump and its file
unfoldable pub file_row_of : DumpView → ℕ × Bytes → FileRowView
file_row_of dump slot = record {
  slot = slot.0;
  field = field_of slot.1;
  kind = known_kind slot.1;
  type_byte = type_byte slot.1;
  closed = is_closed slot.1;
  locked = is_locked slot.1;
  size = size_of slot.1;
  first = first_pair slot.1;
  record_length = record_length_by (kind_of slot.1) slot.1;
  blocks = way_length dump.image slot.1 Data;
  side = way_length dump.image slot.1 Side;
  content = option_map digested_content (content_of dump.image slot.1);
  whole = wholeness dump.image dump.codes slot.1;
  why = why dump.image dump.codes slot.1;
  conditions = conditions dump.image slot.0;
  read_errors = error_count dump slot.1;
}

-- the row of the slot of this number; None if the directory's way has no such slot, or it isn't
-- used
abbrev pub row_at : DumpView → ℕ → Option FileRowView
row_at dump slot = option_and_then (λ cell. if is_used cell then Some (file_row_of dump (slot, cell)) else None) (slot_cell dump.image slot)

-- the rows of numbered slots of a dump: one for each that is used, in order
abbrev pub rows_among : DumpView → List (ℕ × Bytes) → List FileRowView
rows_among dump slots = map (file_row_of dump) (filter (λ (slot : ℕ × Bytes). is_used slot.1) slots)

-- the rows of the slots of the directory's way from a number on
abbrev pub rows_from : DumpView → ℕ → List FileRowView
rows_from dump slot = rows_among dump (drop slot (numbered_slots (way_slots dump.image)))

-- the rows of a dump: those of all slots of the directory's way
unfoldable pub rows : DumpView → List FileRowView
rows dump = rows_among dump (numbered_slots (way_slots dump.image))
