-- What a row has of a slot, field by field.
use Rattle.std.proofs.Common.{◌≡◌, ℕ, List}
use Rattle.std.specs.Prelude.{option_map}
use Rattle.d64_files.specs.Slot.{type_byte, kind_of, is_closed, is_locked, size_of, first_pair, field_of}
use Rattle.d64_survey.specs.Dump.{DumpView}
use Rattle.d64_survey.specs.Flaws.{why, wholeness}
use Rattle.d64_survey.specs.declared.owner.Part.TheVariants.{Data, Side}
use Rattle.d64_inventory.specs.Contents.{content_of, digested_content}
use Rattle.d64_inventory.specs.Conditions.{conditions}
use Rattle.d64_inventory.specs.Rows.{FileRowView, known_kind, record_length_by, way_length, error_count, file_row_of}

-- what a row has is right
pub record AreListed (dump : DumpView) (numbered : ℕ × List ℕ) (row : FileRowView) : Type 0 where
  pub slot : row.slot ≡ numbered.0
  pub field : row.field ≡ field_of numbered.1
  pub kind : row.kind ≡ known_kind numbered.1
  pub type_byte : row.type_byte ≡ type_byte numbered.1
  pub closed : row.closed ≡ is_closed numbered.1
  pub locked : row.locked ≡ is_locked numbered.1
  pub size : row.size ≡ size_of numbered.1
  pub first : row.first ≡ first_pair numbered.1
  pub record_length : row.record_length ≡ record_length_by (kind_of numbered.1) numbered.1
  pub blocks : row.blocks ≡ way_length dump.image numbered.1 Data
  pub side : row.side ≡ way_length dump.image numbered.1 Side
  pub content : row.content ≡ option_map digested_content (content_of dump.image numbered.1)
  pub whole : row.whole ≡ wholeness dump.image dump.codes numbered.1
  pub why : row.why ≡ why dump.image dump.codes numbered.1
  pub conditions : row.conditions ≡ conditions dump.image numbered.0
  pub read_errors : row.read_errors ≡ error_count dump numbered.1

-- so it is the row
pub row_is : (dump : DumpView) (numbered : ℕ × List ℕ) (row : FileRowView) → AreListed dump numbered row → row ≡ file_row_of dump numbered
unfolding file_row_of
row_is dump numbered row t = λ i. record {
  slot = t.slot i;
  field = t.field i;
  kind = t.kind i;
  type_byte = t.type_byte i;
  closed = t.closed i;
  locked = t.locked i;
  size = t.size i;
  first = t.first i;
  record_length = t.record_length i;
  blocks = t.blocks i;
  side = t.side i;
  content = t.content i;
  whole = t.whole i;
  why = t.why i;
  conditions = t.conditions i;
  read_errors = t.read_errors i;
}
