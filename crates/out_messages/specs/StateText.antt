-- What is on a disk, and its state, in words.
use Rattle.std.specs.Prelude.{ℕ, ◌==◌, ◌&&◌, if◌then◌else◌, Bool, List, [], ◌++◌, length, codes}
use Rattle.d64_image.specs.Disk.{Disk}
use Rattle.d64_map.specs.Map.{blocks_free}
use Rattle.d64_files.specs.DiskHeader.{disk_id, disk_name}
use Rattle.d64_survey.specs.Dump.{DumpView}
use Rattle.d64_survey.specs.Doubts.{doubts}
use Rattle.d64_survey.specs.Faults.{faults}
use Rattle.d64_survey.specs.Inspection.{entry_count, unwhole_count, is_sound}
use Rattle.d64_survey.specs.ReadErrors.{read_errors}
use Rattle.petscii.specs.Spelling.{spelling}
use Rattle.out_messages.specs.Names.{quoted_name}
use Rattle.out_messages.specs.Words.{counted_text}
use Rattle.out_messages.specs.DoubtText.{doubts_text}

-- the disk: its name and its id
unfoldable pub label_text : Disk → List ℕ
label_text image = quoted_name (disk_name image) ++ (codes " " ++ spelling (disk_id image))

-- what is on the disk
unfoldable pub contents_text : Disk → List ℕ
contents_text image = counted_text (entry_count image) (codes "file") ++ (codes ", " ++ (counted_text (blocks_free image) (codes "block") ++ codes " free"))

-- how many faults there are
abbrev pub faults_text : ℕ → List ℕ
faults_text count = if count == 0 then codes "sound" else counted_text count (codes "fault")

-- what joins the next item to the line: after `sound` it is a contrast
abbrev pub joining : Bool → List ℕ
joining is_contrast = if is_contrast then codes ", but " else codes ", "

-- how many more things are wrong, if there are any
unfoldable pub and_so_many : Bool → ℕ → List ℕ → List ℕ
and_so_many is_contrast count noun = if count == 0 then [] else joining is_contrast ++ counted_text count noun

-- there is neither a fault nor a read error
abbrev pub is_read_sound : DumpView → Bool
is_read_sound dump = is_sound dump.image && length (read_errors dump) == 0

-- there is neither a fault nor a read error nor a damaged file
abbrev pub is_clean : DumpView → Bool
is_clean dump = is_read_sound dump && unwhole_count dump == 0

-- the state of a dump
unfoldable pub state_text : DumpView → List ℕ
state_text dump =
    faults_text (length (faults dump.image))
    ++ (and_so_many (is_sound dump.image) (length (read_errors dump)) (codes "read error")
    ++ (and_so_many (is_read_sound dump) (unwhole_count dump) (codes "damaged file")
    ++ doubts_text dump.image (is_clean dump) (doubts dump.image)))
