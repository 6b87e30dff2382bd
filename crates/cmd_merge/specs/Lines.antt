-- What is printed of a merge for people.
use Rattle.std.specs.Prelude.{ℕ, ◌==◌, if◌then◌else◌, Bool, List, [], ◌++◌, length, Option, None, Some, codes, decimal}
use Rattle.std.specs.List.{flat_map, range_with_len}
use Rattle.std.specs.Option.{option_map_or}
use Rattle.hex.specs.Hex.{encode_lower}
use Rattle.d64_image.specs.Disk.{Bytes}
use Rattle.d64_survey.specs.Dump.{DumpView, is_read_error, drive_status}
use Rattle.d64_merge.specs.Copies.{known_code}
use Rattle.d64_merge.specs.Choices.{dump_at}
use Rattle.d64_merge.specs.Merged.{outcome_count, is_outcome}
use Rattle.d64_merge.specs.declared.choice.Choice.{Choice}
use Rattle.d64_merge.specs.declared.outcome.BlockOutcome.{BlockOutcome}
use Rattle.d64_merge.specs.declared.outcome.BlockOutcome.TheVariants.{Same, Taken, Lost, Majority, First, Conflict}
use Rattle.host_storage.specs.Shown.{shown_name}
use Rattle.out_messages.specs.FaultText.{drive_status_text}
use Rattle.out_messages.specs.Words.{block_text, counted_text as count_text}
use Rattle.cmd_merge.specs.Objects.{name_at_place, entry_text}

-- what became of a block, before the name of the file whose bytes were taken
abbrev pub outcome_text : BlockOutcome → List ℕ
outcome_text Same = codes " is the same in all: "
outcome_text Taken = codes " taken from "
outcome_text Lost = codes " lost: no dump has a good copy; the bytes are those of "
outcome_text Majority = codes " differs: taken, as in more than half of the good copies, from "
outcome_text First = codes " differs: taken from the first good copy, in "
outcome_text Conflict = codes " differs in good copies, and none of them is taken"

-- the name of that file; empty if there is none
abbrev pub source_text : Option Bytes → List ℕ
source_text name = option_map_or shown_name name []

-- the read error of a block after the name of a file, if the code is a read error; and that of a
-- block that may have no code
abbrev pub error_text : Bytes → ℕ → List ℕ
error_text name code = if is_read_error code then codes "; " ++ (shown_name name ++ (codes ": code " ++ (decimal code ++ drive_status_text (drive_status code)))) else []

abbrev pub copy_text : Bytes → Option ℕ → List ℕ
copy_text name code = option_map_or (error_text name) code []

-- the same for a file and its dump; empty if one of them is missing
abbrev pub error_of : ℕ → Option Bytes → Option DumpView → List ℕ
error_of block None dump = []
error_of block (Some name) None = []
error_of block (Some name) (Some dump) = copy_text name (known_code block dump)

-- the same for the file and the dump at a place
abbrev pub error_at : ℕ → List Bytes → List DumpView → ℕ → List ℕ
error_at block names dumps place = error_of block (name_at_place names (Some place)) (dump_at dumps (Some place))

-- the read errors of a block in all dumps
unfoldable pub error_texts : ℕ → List Bytes → List DumpView → List ℕ
error_texts block names dumps = flat_map (error_at block names dumps) (range_with_len 0 (length dumps))

-- a line for a block
unfoldable pub choice_text : List Bytes → List DumpView → Choice → List ℕ
choice_text names dumps choice =
    codes "  " ++ (block_text choice.block ++ (outcome_text choice.outcome ++ (source_text (name_at_place names choice.source)
    ++ (error_texts choice.block names dumps ++ codes "\n"))))

-- the line of a block, and the lines of all blocks; a block that is the same in all dumps has none
abbrev pub line_of_choice : List Bytes → List DumpView → Choice → List ℕ
line_of_choice names dumps choice = if is_outcome Same choice.outcome then [] else choice_text names dumps choice

unfoldable pub lines_of_choices : List Bytes → List DumpView → List Choice → List ℕ
lines_of_choices names dumps list = flat_map (line_of_choice names dumps) list

-- a number of blocks and a word for what became of them; empty if it is 0
unfoldable pub count_if_any : ℕ → List ℕ → List ℕ
count_if_any count word = if count == 0 then [] else codes ", " ++ (decimal count ++ word)

-- how many blocks are the same in all dumps, taken, or lost
unfoldable pub settled_text : List Choice → List ℕ
settled_text list =
    decimal (outcome_count Same list) ++ (codes " the same in all dumps"
    ++ (count_if_any (outcome_count Taken list) (codes " taken") ++ count_if_any (outcome_count Lost list) (codes " lost")))

-- how many blocks whose good copies differ have each outcome
unfoldable pub differing_text : List Choice → List ℕ
differing_text list =
    count_if_any (outcome_count Majority list) (codes " by majority")
    ++ (count_if_any (outcome_count First list) (codes " from the first good copy") ++ count_if_any (outcome_count Conflict list) (codes " in conflict"))

-- how many blocks have each outcome
abbrev pub counts_text : List Choice → List ℕ
counts_text list = settled_text list ++ differing_text list

-- what is printed after the number of tracks: whether there are read codes
abbrev pub codes_text : Bool → List ℕ
codes_text with_codes = if with_codes then codes " tracks with read codes, " else codes " tracks, "

-- how many tracks and blocks the dump has, and whether it has read codes
unfoldable pub merged_size_text : ℕ → Bool → List Choice → List ℕ
merged_size_text tracks with_codes list =
    decimal tracks ++ (codes_text with_codes ++ (count_text (length list) (codes "block") ++ codes ": "))

-- the track of an entry, after a space; and the line of those that hold what the dump lacks
abbrev pub listed_entry : ℕ → List ℕ
listed_entry entry = codes " " ++ entry_text entry

unfoldable pub left_line : List ℕ → List ℕ
left_line left = codes "  blocks that it lacks are on these tracks of a G64:" ++ (flat_map listed_entry left ++ codes "\n")

-- that line; empty if there are no such tracks
abbrev pub left_text : List ℕ → List ℕ
left_text left = if length left == 0 then [] else left_line left

-- that no file was written; if that is for blocks in conflict, which options decide on them
abbrev pub unwritten_text : ℕ → List ℕ
unwritten_text conflicts =
    if conflicts == 0 then codes "  not written\n"
    else codes "  not written: of good copies that differ, --majority takes what more than half have, --first the first one\n"

-- the line of the digest of the file that was made, or that none was written
abbrev pub digest_text : Option Bytes → ℕ → List ℕ
digest_text digest conflicts = option_map_or (λ bytes. codes "  SHA-256 " ++ (encode_lower bytes ++ codes "\n")) digest (unwritten_text conflicts)

-- the line of the file that is made
unfoldable pub first_line : Bytes → ℕ → Bool → List Choice → List ℕ
first_line out tracks with_codes list = shown_name out ++ (codes ": " ++ (merged_size_text tracks with_codes list ++ (counts_text list ++ codes "\n")))

-- all that is printed of a merge for people
unfoldable pub text_report : Bytes → ℕ → Bool → List Bytes → List DumpView → List Choice → List ℕ → Option Bytes → List ℕ
text_report out tracks with_codes names dumps list left digest =
    first_line out tracks with_codes list ++ (lines_of_choices names dumps list ++ (left_text left ++ digest_text digest (outcome_count Conflict list)))
