-- The tracks of G64 files that the merged dump doesn't have, and on which there are blocks that it
-- lacks.
use Rattle.std.specs.Prelude.{ℕ, ◌/◌, ◌%◌, ◌==◌, ◌&&◌, not, nat_lt, Bool, true, List, filter}
use Rattle.std.specs.List.{list_any, range_with_len, slice_get}
use Rattle.std.specs.Option.{option_map_or}
use Rattle.d64_image.specs.Disk.{Bytes}
use Rattle.d64_image.specs.Block.{block_of}
use Rattle.d64_g64.specs.SoundNames.{names_on}
use Rattle.d64_merge.specs.Merged.{is_outcome}
use Rattle.d64_merge.specs.declared.choice.Choice.{Choice}
use Rattle.d64_merge.specs.declared.outcome.BlockOutcome.TheVariants.{Lost}

-- an entry of a G64 is a whole track of a disk with this many tracks: entry 0 is track 1, entry 2
-- track 2
abbrev pub is_whole_track : ℕ → ℕ → Bool
is_whole_track tracks entry = (entry % 2 == 0) && nat_lt (entry / 2) tracks

-- a block was lost, or the merged dump doesn't have it
abbrev pub is_block_lost : List Choice → ℕ → Bool
is_block_lost list block = option_map_or (λ (choice : Choice). is_outcome Lost choice.outcome) (slice_get list block) true

-- the same for a track and a sector; a pair that no disk has is missing, too
abbrev pub is_missing : List Choice → ℕ × ℕ → Bool
is_missing list pair = option_map_or (is_block_lost list) (block_of pair.0 pair.1) true

-- an entry of a G64 holds such a block, with its data
abbrev pub holds_missing : List Choice → ℕ → Bytes → Bool
holds_missing list entry file = list_any (is_missing list) (names_on file entry)

-- an entry is not a track of the merged dump, and one of the files holds such a block there
abbrev pub is_entry_left : ℕ → List Choice → List Bytes → ℕ → Bool
is_entry_left tracks list files entry = not (is_whole_track tracks entry) && list_any (holds_missing list entry) files

-- these entries, ascending; a G64 has at most 255
unfoldable pub left : ℕ → List Choice → List Bytes → List ℕ
left tracks list files = filter (is_entry_left tracks list files) (range_with_len 0 255)
