-- Chains of blocks that no slot leads to.
use Rattle.std.specs.Prelude.{ℕ, ◌==◌, ◌&&◌, ◌||◌, nat_eq, nat_lt, not, Bool, false, if◌then◌else◌, List, [], filter, length, Option, Some, None, option_map}
use Rattle.std.specs.List.{filter_map, find, flat_map, list_all, list_any, range_with_len}
use Rattle.std.specs.Option.{option_map_or}
use Rattle.d64_image.specs.Disk.{Disk, Bytes, Blocks}
use Rattle.d64_image.specs.Block.{pair_at}
use Rattle.d64_files.specs.Chain.{link_at}
use Rattle.d64_files.specs.Directory.{slots_in}
use Rattle.d64_files.specs.FileData.{data_along}
use Rattle.d64_files.specs.Slot.{type_byte, has_kind, kind_of, is_used, is_closed, is_locked, size_of, first_pair, field_of}
use Rattle.d64_survey.specs.Dump.{DumpView}
use Rattle.d64_survey.specs.Way.{way, block_at, is_whole}
use Rattle.d64_survey.specs.Owners.{way_slots, is_owned}
use Rattle.d64_survey.specs.declared.way_end.WayEnd.{WayEnd}
use Rattle.d64_scratched.specs.Scratched.{is_scratched}
use Rattle.d64_inventory.specs.Contents.{digested_along}
use Rattle.d64_inventory.specs.declared.row.Content.{Content}
use Rattle.d64_leftovers.specs.Deleted.{unreadable_count}
use Rattle.d64_leftovers.specs.declared.orphan_row.OldSlot.{OldSlot}

-- the blocks to which a slot leads: those of the way from its first pair, where it is used or
-- scratched
abbrev pub blocks_led_to : Disk → Bytes → Blocks
blocks_led_to image cell = if is_used cell || is_scratched cell then (way image (first_pair cell)).0 else []

-- a block has no owner, and no slot leads to it
abbrev pub is_block_left : Disk → ℕ → Bool
is_block_left image block = not (is_owned image block) && not (list_any (nat_eq block) (flat_map (blocks_led_to image) (way_slots image)))

-- these blocks, rising
unfoldable pub left_blocks : Disk → Blocks
left_blocks image = filter (is_block_left image) (range_with_len 0 (length image))

-- a block is one of them
abbrev pub is_among_left : Disk → ℕ → Bool
is_among_left image block = list_any (nat_eq block) (left_blocks image)

-- the blocks to which blocks link
abbrev pub blocks_linked : Disk → Blocks → Blocks
blocks_linked image blocks = filter_map (λ block. block_at image (link_at image block)) blocks

-- a way is a whole chain of blocks that are left, and has data
abbrev pub is_orphan_way : Disk → Blocks × WayEnd → Bool
is_orphan_way image way =
    is_whole way.1 && (list_all (is_among_left image) way.0 && nat_lt 0 (length (data_along image way.0)))

-- a block that is left is the head of an orphan: no block that is left links to it, it isn't on
-- track 18, and the way from it is such a way
abbrev pub is_head : Disk → ℕ → Bool
is_head image block =
    not (list_any (nat_eq block) (blocks_linked image (left_blocks image)))
    && (not ((pair_at block).0 == 18) && is_orphan_way image (way image (pair_at block)))

-- the slots of an old directory: those of blocks on track 18 that are left
abbrev pub old_slots : Disk → List Bytes
old_slots image = slots_in image (filter (λ block. (pair_at block).0 == 18) (left_blocks image))

-- a slot of an old directory names a head
abbrev pub is_named_by : Disk → ℕ → Bytes → Bool
is_named_by image head cell = is_used cell && (has_kind cell && option_map_or (nat_eq head) (block_at image (first_pair cell)) false)

-- the first such slot, if there is one
abbrev pub old_slot : Disk → ℕ → Option Bytes
old_slot image head = find (is_named_by image head) (old_slots image)

-- what an old slot says
abbrev pub old_slot_of : Bytes → OldSlot
old_slot_of cell = record {
  field = field_of cell;
  kind = kind_of cell;
  type_byte = type_byte cell;
  closed = is_closed cell;
  locked = is_locked cell;
  size = size_of cell;
}

-- the row of an orphan
pub record OrphanRowView : Type 0 where
  pub first : ℕ
  pub old : Option OldSlot
  pub blocks : ℕ
  pub content : Option Content
  pub read_errors : ℕ

-- the row of the orphan of a head
unfoldable pub orphan_row : DumpView → ℕ → OrphanRowView
orphan_row dump head = record {
  first = head;
  old = option_map old_slot_of (old_slot dump.image head);
  blocks = length (way dump.image (pair_at head)).0;
  content = digested_along dump.image (way dump.image (pair_at head));
  read_errors = unreadable_count dump.codes (way dump.image (pair_at head)).0;
}
