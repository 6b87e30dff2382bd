-- The row of an orphan, field by field.
use Rattle.std.proofs.Common.{◌≡◌, ℕ, List, length, refl}
use Rattle.std.specs.Prelude.{option_map}
use Rattle.d64_image.specs.Block.{pair_at}
use Rattle.d64_survey.specs.Dump.{DumpView}
use Rattle.d64_survey.specs.Way.{way}
use Rattle.d64_inventory.specs.Contents.{digested_along}
use Rattle.d64_leftovers.specs.Deleted.{unreadable_count}
use Rattle.d64_leftovers.specs.Orphans.{OrphanRowView, old_slot, old_slot_of, orphan_row}

-- the fields of a row, after the first block, are those of the orphan that begins with that block
pub record AreListed (dump : DumpView) (row : OrphanRowView) : Type 0 where
  pub old : row.old ≡ option_map old_slot_of (old_slot dump.image row.first)
  pub blocks : row.blocks ≡ length (way dump.image (pair_at row.first)).0
  pub content : row.content ≡ digested_along dump.image (way dump.image (pair_at row.first))
  pub read_errors : row.read_errors ≡ unreadable_count dump.codes (way dump.image (pair_at row.first)).0

-- so it is the row
pub row_is : (dump : DumpView) (head : ℕ) (row : OrphanRowView) → AreListed dump row → row ≡ orphan_row dump row.first
unfolding orphan_row
row_is dump head row t = λ i. record {
  first = row.first;
  old = t.old i;
  blocks = t.blocks i;
  content = t.content i;
  read_errors = t.read_errors i;
}
