-- The row of a scratched slot, and of the file that was deleted there.
use Rattle.std.specs.Prelude.{ℕ, List, length, count_by, Option}
use Rattle.std.specs.List.{find}
use Rattle.d64_image.specs.Disk.{Disk, Bytes, Blocks}
use Rattle.d64_files.specs.Slot.{size_of, first_pair, field_of}
use Rattle.d64_survey.specs.Dump.{DumpView, is_read_error}
use Rattle.d64_survey.specs.ReadErrors.{code_of}
use Rattle.d64_survey.specs.Owners.{is_owned}
use Rattle.d64_scratched.specs.Scratched.{scratched_way, losses}
use Rattle.d64_scratched.specs.declared.loss.Loss.{Loss}
use Rattle.d64_inventory.specs.Contents.{digested_along}
use Rattle.d64_inventory.specs.declared.row.Content.{Content}

-- the row of a deleted file
pub record DeletedRowView : Type 0 where
  pub slot : ℕ
  pub field : Bytes
  pub size : ℕ
  pub first : ℕ × ℕ
  pub blocks : ℕ
  pub content : Option Content
  pub losses : List Loss
  pub reused : Option ℕ
  pub read_errors : ℕ

-- how many of blocks have a read error
abbrev pub unreadable_count : Option Bytes → Blocks → ℕ
unreadable_count codes blocks = count_by (λ block. is_read_error (code_of codes block)) blocks

-- the row of a numbered slot of a dump that is scratched: how many blocks its way has, the
-- content along it, why the file isn't whole, and the first block of the way that has an owner
unfoldable pub deleted_row : DumpView → ℕ × Bytes → DeletedRowView
deleted_row dump slot = record {
  slot = slot.0;
  field = field_of slot.1;
  size = size_of slot.1;
  first = first_pair slot.1;
  blocks = length (scratched_way dump.image slot.1).0;
  content = digested_along dump.image (scratched_way dump.image slot.1);
  losses = losses dump.image dump.codes slot.0 slot.1;
  reused = find (is_owned dump.image) (scratched_way dump.image slot.1).0;
  read_errors = unreadable_count dump.codes (scratched_way dump.image slot.1).0;
}
