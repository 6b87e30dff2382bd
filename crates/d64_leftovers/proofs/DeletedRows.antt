-- The row of a deleted file, field by field.
use Rattle.std.proofs.Common.{◌≡◌, ℕ, List, length}
use Rattle.std.specs.List.{find}
use Rattle.d64_files.specs.Slot.{size_of, first_pair, field_of}
use Rattle.d64_survey.specs.Dump.{DumpView}
use Rattle.d64_survey.specs.Owners.{is_owned}
use Rattle.d64_survey.specs.Way.{way}
use Rattle.d64_scratched.specs.Scratched.{losses}
use Rattle.d64_inventory.specs.Contents.{digested_along}
use Rattle.d64_leftovers.specs.Deleted.{DeletedRowView, unreadable_count, deleted_row}

-- the fields of a row are those of the deleted file of a numbered slot
pub record AreListed (dump : DumpView) (numbered : ℕ × List ℕ) (row : DeletedRowView) : Type 0 where
  pub slot : row.slot ≡ numbered.0
  pub field : row.field ≡ field_of numbered.1
  pub size : row.size ≡ size_of numbered.1
  pub first : row.first ≡ first_pair numbered.1
  pub blocks : row.blocks ≡ length (way dump.image (first_pair numbered.1)).0
  pub content : row.content ≡ digested_along dump.image (way dump.image (first_pair numbered.1))
  pub losses : row.losses ≡ losses dump.image dump.codes numbered.0 numbered.1
  pub reused : row.reused ≡ find (is_owned dump.image) (way dump.image (first_pair numbered.1)).0
  pub read_errors : row.read_errors ≡ unreadable_count dump.codes (way dump.image (first_pair numbered.1)).0

-- so it is the row
pub row_is : (dump : DumpView) (numbered : ℕ × List ℕ) (row : DeletedRowView) → AreListed dump numbered row → row ≡ deleted_row dump numbered
unfolding deleted_row
row_is dump numbered row t = λ i. record {
  slot = t.slot i;
  field = t.field i;
  size = t.size i;
  first = t.first i;
  blocks = t.blocks i;
  content = t.content i;
  losses = t.losses i;
  reused = t.reused i;
  read_errors = t.read_errors i;
}
