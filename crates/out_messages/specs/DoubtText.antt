-- What makes an image doubtful, in words.
use Rattle.std.specs.Prelude.{ℕ, ◌==◌, Bool, if◌then◌else◌, List, [], ◌∷◌, ◌++◌, codes}
use Rattle.std.specs.List.{flat_map}
use Rattle.d64_image.specs.Disk.{Disk}
use Rattle.d64_map.specs.Map.{map_block}
use Rattle.d64_files.specs.Directory.{directory_start}
use Rattle.d64_survey.specs.Doubts.{is_blank}
use Rattle.d64_survey.specs.Owners.{unowned_count}
use Rattle.d64_survey.specs.declared.doubt.Doubt.{Doubt}
use Rattle.d64_survey.specs.declared.doubt.Doubt.TheVariants.{Version, Blank, Unowned, Filler}
use Rattle.out_messages.specs.Words.{counted_text}

-- the text for this many blocks that are marked used and that nothing owns
abbrev pub unowned_words : ℕ → List ℕ
unowned_words count = if count == 1 then codes " is marked used and belongs to no file" else codes " are marked used and belong to no file"

-- the number of these blocks, with that text
unfoldable pub unowned_text : ℕ → List ℕ
unowned_text count = counted_text count (codes "block") ++ unowned_words count

-- which of the first blocks of map and directory are blank; the flags say that the map's is, and
-- the directory's
abbrev pub blank_text : Bool → Bool → List ℕ
blank_text map directory =
    if map then (if directory then codes "the map's block and the directory's first block are blank" else codes "the map's block is blank")
    else codes "the directory's first block is blank"

-- a doubt
unfoldable pub doubt_text : Disk → Doubt → List ℕ
doubt_text image Version = codes "the version byte is not that of a 1541 disk"
doubt_text image Blank = blank_text (is_blank image map_block) (is_blank image directory_start)
doubt_text image Unowned = unowned_text (unowned_count image)
doubt_text image Filler = codes "a block is filled with -=[BAD SECTOR]=-, which copy programs write for a block that they could not read"

-- a doubt that is not the first
unfoldable pub next_doubt : Disk → Doubt → List ℕ
next_doubt image doubt = codes ", " ++ doubt_text image doubt

-- what comes before the first doubt of an image: after `sound` it is a contrast
abbrev pub doubtful_words : Bool → List ℕ
doubtful_words clean = if clean then codes ", but doubtful: " else codes ", and doubtful: "

-- the doubts of an image, which is clean if nothing else is wrong
unfoldable pub doubts_text : Disk → Bool → List Doubt → List ℕ
doubts_text image clean [] = []
doubts_text image clean (doubt ∷ doubts) = doubtful_words clean ++ (doubt_text image doubt ++ flat_map (next_doubt image) doubts)
