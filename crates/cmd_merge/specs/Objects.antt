-- What is printed of a merge as JSON.
use Rattle.std.specs.Prelude.{ℕ, ◌+◌, ◌/◌, ◌%◌, ◌==◌, if◌then◌else◌, Bool, List, [], ◌∷◌, ◌++◌, length, map, Option, None, Some, codes, decimal}
use Rattle.std.specs.List.{flat_map, slice_get}
use Rattle.std.specs.Option.{option_map_or}
use Rattle.json.specs.Json.{Json, string, null, boolean}
use Rattle.hex.specs.Hex.{encode_lower}
use Rattle.d64_image.specs.Disk.{Bytes}
use Rattle.d64_survey.specs.Dump.{DumpView}
use Rattle.d64_merge.specs.Copies.{known_code}
use Rattle.d64_merge.specs.Merged.{outcome_count, is_outcome}
use Rattle.d64_merge.specs.declared.choice.Choice.{Choice}
use Rattle.d64_merge.specs.declared.outcome.BlockOutcome.{BlockOutcome}
use Rattle.d64_merge.specs.declared.outcome.BlockOutcome.TheVariants.{Same, Taken, Lost, Majority, First, Conflict}
use Rattle.out_json_csv.specs.Pairs.{block_field}
use Rattle.out_json_csv.specs.Values.{Field, object_of, array_of, numeral, numeral_or_null, line_of}
use Rattle.out_json_csv.specs.FailedDumps.{host_value}

-- the word for what became of a block
abbrev pub outcome_word : BlockOutcome → List ℕ
outcome_word Same = codes "same"
outcome_word Taken = codes "taken"
outcome_word Lost = codes "lost"
outcome_word Majority = codes "majority"
outcome_word First = codes "first"
outcome_word Conflict = codes "conflict"

-- the name of the file at a place, if there is a place
abbrev pub name_at_place : List Bytes → Option ℕ → Option Bytes
name_at_place names None = None
name_at_place names (Some place) = slice_get names place

-- a name of the host, or null
abbrev pub name_or_null : Option Bytes → Json
name_or_null name = option_map_or host_value name null

-- the read codes of a block, one for each dump
abbrev pub codes_value : List DumpView → ℕ → Json
codes_value dumps block = array_of (map (λ dump. numeral_or_null (known_code block dump)) dumps)

-- the block, what became of it, and whose bytes were taken
abbrev pub choice_members : List Bytes → Choice → List Field
choice_members names choice =
    (codes "block", string (block_field choice.block)) ∷ (codes "result", string (outcome_word choice.outcome))
    ∷ (codes "from", name_or_null (name_at_place names choice.source)) ∷ []

-- the read codes of a block, as a member
abbrev pub codes_members : List DumpView → ℕ → List Field
codes_members dumps block = (codes "codes", codes_value dumps block) ∷ []

-- what is printed of a block
abbrev pub choice_object : List Bytes → List DumpView → Choice → Json
choice_object names dumps choice = object_of (choice_members names choice ++ codes_members dumps choice.block)

-- the line of a block, and the lines of all blocks; a block that is the same in all dumps has none
abbrev pub choice_line : List Bytes → List DumpView → Choice → List ℕ
choice_line names dumps choice = if is_outcome Same choice.outcome then [] else line_of (choice_object names dumps choice)

unfoldable pub choice_lines : List Bytes → List DumpView → List Choice → List ℕ
choice_lines names dumps list = flat_map (choice_line names dumps) list

-- the track of an entry of a G64: `41`, or `18.5` for the half track behind track 18
unfoldable pub entry_text : ℕ → List ℕ
entry_text entry = decimal (1 + entry / 2) ++ (if entry % 2 == 0 then [] else codes ".5")

-- the file that is made, how many tracks it has, whether it has read codes, and how many blocks
abbrev pub merged_size_members : Bytes → ℕ → Bool → List Choice → List Field
merged_size_members out tracks with_codes list =
    (codes "out", host_value out) ∷ (codes "tracks", numeral tracks) ∷ (codes "codes", boolean with_codes) ∷ (codes "blocks", numeral (length list)) ∷ []

-- how many blocks have an outcome; and that for each outcome other than `Same`
abbrev pub count_member : BlockOutcome → List Choice → Field
count_member outcome list = (outcome_word outcome, numeral (outcome_count outcome list))

abbrev pub outcome_members : List Choice → List Field
outcome_members list =
    count_member Taken list ∷ count_member Lost list ∷ count_member Majority list ∷ count_member First list ∷ count_member Conflict list ∷ []

-- what is left on other tracks of G64 files
abbrev pub left_members : List ℕ → List Field
left_members left = (codes "left", array_of (map (λ entry. string (entry_text entry)) left)) ∷ []

-- the digest of the file that was made; null if none was
abbrev pub made_digest_members : Option Bytes → List Field
made_digest_members digest = (codes "sha256", option_map_or (λ bytes. string (encode_lower bytes)) digest null) ∷ []

-- the object of the summary
abbrev pub summary_object : Bytes → ℕ → Bool → List Choice → List ℕ → Option Bytes → Json
summary_object out tracks with_codes list left digest =
    object_of (merged_size_members out tracks with_codes list ++ (outcome_members list ++ (left_members left ++ made_digest_members digest)))
