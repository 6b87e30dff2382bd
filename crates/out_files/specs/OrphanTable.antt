-- The orphans of an image in a table for people.
use Rattle.std.specs.Prelude.{ℕ, nat_lt, if◌then◌else◌, List, [], ◌++◌, option_map, unwrap_or, Option, Some, None, codes, decimal}
use Rattle.d64_files.specs.Name.{name_in}
use Rattle.d64_inventory.specs.declared.row.Content.{Content}
use Rattle.d64_leftovers.specs.Orphans.{OrphanRowView}
use Rattle.d64_leftovers.specs.declared.orphan_row.OldSlot.{OldSlot}
use Rattle.out_messages.specs.FileText.{kind_letters}
use Rattle.out_messages.specs.Names.{quoted_name}
use Rattle.out_messages.specs.Words.{block_text, counted_text}
use Rattle.out_files.specs.FileTable.{right_in, left_in}

-- the name in an old slot, in quotes; else the first block
abbrev pub orphan_name : ℕ → Option OldSlot → List ℕ
orphan_name first None = block_text first
orphan_name first (Some old) = quoted_name (name_in old.field)

-- the letters of the kind in an old slot; else spaces
abbrev pub orphan_kind : Option OldSlot → List ℕ
orphan_kind None = codes "   "
orphan_kind (Some old) = kind_letters old.kind

-- that an old slot names it
abbrev pub named_text : Option OldSlot → List ℕ
named_text None = []
named_text (Some old) = codes ", named by an old directory"

-- that a block has a read error
abbrev pub orphan_error_text : ℕ → List ℕ
orphan_error_text count = if nat_lt 0 count then codes ", has a read error" else []

-- how many bytes it has
abbrev pub orphan_byte_count : OrphanRowView → ℕ
orphan_byte_count row = unwrap_or (option_map (λ (content : Content). content.bytes) row.content) 0

-- where it begins, how many bytes it has, whether an old slot names it, and whether all was read
unfoldable pub orphan_state : OrphanRowView → List ℕ
orphan_state row =
    codes "from " ++ (block_text row.first ++ (codes ": " ++ (counted_text (orphan_byte_count row) (codes "byte") ++ (named_text row.old ++ orphan_error_text row.read_errors))))

-- the text of an orphan on a line: how many blocks it has, the name, the kind, and that state
unfoldable pub orphan_text : OrphanRowView → List ℕ
orphan_text row =
    right_in 5 (decimal row.blocks) ++ (codes " " ++ (left_in 18 (orphan_name row.first row.old) ++ (codes " " ++ (orphan_kind row.old ++ (codes "   " ++ orphan_state row)))))
