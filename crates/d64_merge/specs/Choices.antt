-- What a merge makes of a block.
use Rattle.std.specs.Prelude.{ℕ, ◌==◌, ◌&&◌, if◌then◌else◌, Bool, true, List, length, position, Option, None, Some, is_some}
use Rattle.std.specs.List.{list_any, slice_get}
use Rattle.std.specs.Option.{option_map_or, option_or}
use Rattle.d64_survey.specs.Dump.{DumpView}
use Rattle.d64_survey.specs.ReadErrors.{code_of}
use Rattle.d64_merge.specs.Copies.{has_block, is_good, has_bad_checksum, good_count, votes, wins}
use Rattle.d64_merge.specs.declared.choice.Choice.{Choice}
use Rattle.d64_merge.specs.declared.outcome.Preference.{Preference}
use Rattle.d64_merge.specs.declared.outcome.BlockOutcome.{BlockOutcome}
use Rattle.d64_merge.specs.declared.outcome.BlockOutcome.TheVariants.{Same, Taken, Lost, Majority, First, Conflict}

-- the dump at a place, if there is a place
abbrev pub dump_at : List DumpView → Option ℕ → Option DumpView
dump_at dumps None = None
dump_at dumps (Some place) = slice_get dumps place

-- the place of the first dump, from 0, that has a good copy
abbrev pub first_good : ℕ → List DumpView → Option ℕ
first_good block dumps = position (is_good block) dumps

-- all good copies are equal: as many as there are agree with the first of them
abbrev pub are_equal : ℕ → List DumpView → Bool
are_equal block dumps =
    option_map_or (λ dump. votes block dumps dump == good_count block dumps) (dump_at dumps (first_good block dumps)) true

-- what becomes of a block whose good copies differ: by majority, if that is preferred and more than
-- half of them are equal; else from the first one, if that is preferred; else in conflict
abbrev pub outcome_apart : Preference → ℕ → List DumpView → BlockOutcome
outcome_apart preference block dumps =
    if preference.majority && list_any (wins block dumps) dumps then Majority
    else (if preference.first then First else Conflict)

-- what becomes of a block: no copy is good; or the good ones are equal, in all dumps or in some; or
-- they differ
unfoldable pub outcome : Preference → ℕ → List DumpView → BlockOutcome
outcome preference block dumps =
    if good_count block dumps == 0 then Lost
    else (if are_equal block dumps
    then (if good_count block dumps == length dumps then Same else Taken)
    else outcome_apart preference block dumps)

-- the place of the dump whose bytes are taken: of the first good copy, of the first that more than
-- half agree with, or, if no copy is good, of the first with a bad checksum, else of the first
unfoldable pub source : BlockOutcome → ℕ → List DumpView → Option ℕ
source Same block dumps = first_good block dumps
source Taken block dumps = first_good block dumps
source First block dumps = first_good block dumps
source Majority block dumps = position (wins block dumps) dumps
source Lost block dumps = option_or (position (has_bad_checksum block) dumps) (position (has_block block) dumps)
source Conflict block dumps = None

-- a dump has read codes
abbrev pub has_codes : DumpView → Bool
has_codes dump = is_some dump.codes

-- the place of the dump whose read code the block gets: that of the copy that is taken; if all
-- dumps have the same copy, the first dump that has codes
unfoldable pub code_source : BlockOutcome → ℕ → List DumpView → Option ℕ
code_source Same block dumps = position has_codes dumps
code_source Taken block dumps = source Taken block dumps
code_source First block dumps = source First block dumps
code_source Majority block dumps = source Majority block dumps
code_source Lost block dumps = source Lost block dumps
code_source Conflict block dumps = source Conflict block dumps

-- the read code of a block in a dump; 0, not known, if it has no codes or there is no dump
abbrev pub code_in : ℕ → Option DumpView → ℕ
code_in block dump = option_map_or (λ (dump : DumpView). code_of dump.codes block) dump 0

-- the read code that the block gets
abbrev pub merged_code : BlockOutcome → ℕ → List DumpView → ℕ
merged_code outcome block dumps = code_in block (dump_at dumps (code_source outcome block dumps))

-- what a merge makes of a block
unfoldable pub choice : Preference → List DumpView → ℕ → Choice
choice preference dumps block =
    let became = outcome preference block dumps in
    record { block = block; outcome = became; source = source became block dumps; code = merged_code became block dumps }
