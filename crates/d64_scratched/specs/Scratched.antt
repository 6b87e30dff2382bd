-- Scratched slots: what the directory still says of deleted files, and why one of these isn't
-- whole.
use Rattle.std.specs.Prelude.{ℕ, ◌==◌, ◌&&◌, nat_eq, Bool, true, false, not, if◌then◌else◌, List, [], ◌∷◌, ◌++◌, length, take, filter, Option}
use Rattle.std.specs.List.{flat_map, list_any}
use Rattle.d64_image.specs.Disk.{Disk, Bytes, Blocks}
use Rattle.d64_files.specs.Slot.{is_used, first_pair, size_of}
use Rattle.d64_survey.specs.Flaws.{any_unreadable}
use Rattle.d64_survey.specs.Owners.{way_slots, is_owned, is_unowned}
use Rattle.d64_survey.specs.Way.{way, is_whole}
use Rattle.d64_survey.specs.declared.way_end.WayEnd.{WayEnd}
use Rattle.d64_scratched.specs.declared.loss.Loss.{Loss}
use Rattle.d64_scratched.specs.declared.loss.Loss.TheVariants.{Chain, Reused, Marked, Size, Claimed, Unreadable}

-- a scratched slot: its type byte is 0, but its first pair's track isn't
abbrev pub is_scratched : Bytes → Bool
is_scratched cell = not (is_used cell) && not ((first_pair cell).0 == 0)

-- the way of a scratched slot: that from its first pair
abbrev pub scratched_way : Disk → Bytes → Blocks × WayEnd
scratched_way image cell = way image (first_pair cell)

-- the blocks of the ways of the scratched slots among these
abbrev pub blocks_left : Disk → List Bytes → Blocks
blocks_left image cells = flat_map (λ cell. (scratched_way image cell).0) (filter is_scratched cells)

-- whether a block is in the way of a scratched slot with a lower number
abbrev pub is_claimed_below : Disk → ℕ → ℕ → Bool
is_claimed_below image slot block = list_any (nat_eq block) (blocks_left image (take slot (way_slots image)))

-- whether the way ends after a last block, and has another number of blocks than the slot's size
abbrev pub is_scratched_missized : Bytes → Blocks × WayEnd → Bool
is_scratched_missized cell way = is_whole way.1 && not (length way.0 == size_of cell)

-- a list of the reason if it applies, and else the empty list
abbrev pub where_lost : Bool → Loss → List Loss
where_lost holds loss = if holds then loss ∷ [] else []

-- why a scratched slot with this number, these bytes and this way isn't whole, in order
abbrev pub losses_by : Disk → Option Bytes → ℕ → Bytes → Blocks × WayEnd → List Loss
losses_by image codes slot cell way =
    where_lost (not (is_whole way.1)) Chain
    ++ (where_lost (list_any (is_owned image) way.0) Reused
    ++ (where_lost (list_any (is_unowned image) way.0) Marked
    ++ (where_lost (is_scratched_missized cell way) Size
    ++ (where_lost (list_any (is_claimed_below image slot) way.0) Claimed
    ++ where_lost (any_unreadable codes way.0) Unreadable))))

-- why the scratched slot of this number with these bytes isn't whole
unfoldable pub losses : Disk → Option Bytes → ℕ → Bytes → List Loss
losses image codes slot cell = losses_by image codes slot cell (scratched_way image cell)

-- whether the file can't be brought back for this reason
abbrev pub is_fatal : Loss → Bool
is_fatal Chain = true
is_fatal Reused = true
is_fatal Marked = true
is_fatal Size = true
is_fatal Claimed = false
is_fatal Unreadable = false

-- whether a file with these reasons is lost
abbrev pub is_lost : List Loss → Bool
is_lost losses = list_any is_fatal losses
