-- The dump that a merge makes.
use Rattle.std.specs.Prelude.{ℕ, ◌==◌, ◌&&◌, not, if◌then◌else◌, Bool, true, false, List, [], length, map, count_by, Option, None, Some}
use Rattle.std.specs.List.{list_any, range_with_len}
use Rattle.std.specs.Option.{option_map_or}
use Rattle.d64_image.specs.Disk.{Bytes, Disk}
use Rattle.d64_image.specs.Image.{sector_at, tracks_of, count_of_tracks}
use Rattle.d64_survey.specs.Dump.{DumpView}
use Rattle.d64_merge.specs.Choices.{choice, dump_at, has_codes}
use Rattle.d64_merge.specs.declared.choice.Choice.{Choice}
use Rattle.d64_merge.specs.declared.outcome.Preference.{Preference}
use Rattle.d64_merge.specs.declared.outcome.BlockOutcome.{BlockOutcome}
use Rattle.d64_merge.specs.declared.outcome.BlockOutcome.TheVariants.{Same, Taken, Lost, Majority, First, Conflict}

-- a dump has 40 tracks
abbrev pub has_40_tracks : DumpView → Bool
has_40_tracks dump = tracks_of (length dump.image) == 40

-- how many tracks the merged dump has: 40 if a dump has 40, else 35
abbrev pub merged_tracks : List DumpView → ℕ
merged_tracks dumps = if list_any has_40_tracks dumps then 40 else 35

-- how many blocks the merged dump has
abbrev pub merged_block_count : List DumpView → ℕ
merged_block_count dumps = count_of_tracks (merged_tracks dumps)

-- what becomes of the merged dump's blocks, in their order
unfoldable pub choices : Preference → List DumpView → List Choice
choices preference dumps = map (choice preference dumps) (range_with_len 0 (merged_block_count dumps))

-- two outcomes are the same
abbrev pub is_outcome : BlockOutcome → BlockOutcome → Bool
is_outcome Same Same = true
is_outcome Taken Taken = true
is_outcome Lost Lost = true
is_outcome Majority Majority = true
is_outcome First First = true
is_outcome Conflict Conflict = true
is_outcome one other = false

-- how many blocks have this outcome
abbrev pub outcome_count : BlockOutcome → List Choice → ℕ
outcome_count outcome list = count_by (λ (choice : Choice). is_outcome outcome choice.outcome) list

-- the bytes of the copy that is taken of a block; empty if no copy is taken
abbrev pub taken_bytes : List DumpView → Choice → Bytes
taken_bytes dumps choice = option_map_or (λ (dump : DumpView). sector_at dump.image choice.block) (dump_at dumps choice.source) []

-- the image that choices make
unfoldable pub merged_image : List DumpView → List Choice → Disk
merged_image dumps list = map (taken_bytes dumps) list

-- the read codes that they make
abbrev pub merged_codes : List Choice → Bytes
merged_codes list = map (λ (choice : Choice). choice.code) list

-- a dump has read codes, and they are not left out
abbrev pub keeps_codes : Bool → List DumpView → Bool
keeps_codes plain dumps = not plain && list_any has_codes dumps

-- the dump that choices make, with read codes or without
unfoldable pub dump_by : Bool → List DumpView → List Choice → DumpView
dump_by with_codes dumps list = record { image = merged_image dumps list; codes = if with_codes then Some (merged_codes list) else None }

-- the dump that they make; None if there is a conflict
unfoldable pub dump_of_choices : Bool → List DumpView → List Choice → Option DumpView
dump_of_choices with_codes dumps list = if outcome_count Conflict list == 0 then Some (dump_by with_codes dumps list) else None

-- the dump that a merge makes; None if there is a conflict
abbrev pub merged : Preference → Bool → List DumpView → Option DumpView
merged preference plain dumps = dump_of_choices (keeps_codes plain dumps) dumps (choices preference dumps)
