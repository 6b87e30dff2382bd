-- The inspection of a dump: all that is reported about it.
use Rattle.std.specs.Prelude.{◌≡◌, ℕ, ◌&&◌, ◌||◌, ◌==◌, nat_lt, Bool, false, not, length, count_by, Option, Some, None}
use Rattle.std.specs.List.{slice_get}
use Rattle.d64_image.specs.Disk.{Disk, Bytes}
use Rattle.d64_files.specs.Slot.{is_used}
use Rattle.d64_survey.specs.Dump.{DumpView}
use Rattle.d64_survey.specs.ReadErrors.{read_errors}
use Rattle.d64_survey.specs.Owners.{way_slots}
use Rattle.d64_survey.specs.Faults.{faults}
use Rattle.d64_survey.specs.Flaws.{wholeness}
use Rattle.d64_survey.specs.Doubts.{doubts}
use Rattle.d64_survey.specs.declared.file_count.FileCounts.{FileCounts}

-- the bytes of a slot of the directory's way; None if it has no such slot
abbrev pub slot_cell : Disk → ℕ → Option Bytes
slot_cell image slot = slice_get (way_slots image) slot

-- whether a value is known, and true
abbrev pub is_so : Option Bool → Bool
is_so None = false
is_so (Some outcome) = outcome

-- whether a value is known, and false
abbrev pub is_not_so : Option Bool → Bool
is_not_so None = false
is_not_so (Some outcome) = not outcome

-- whether a slot is used and its file is known to be whole
abbrev pub is_whole_file : DumpView → Bytes → Bool
is_whole_file dump cell = is_used cell && is_so (wholeness dump.image dump.codes cell)

-- whether a slot is used and its file is known not to be whole
abbrev pub is_unwhole_file : DumpView → Bytes → Bool
is_unwhole_file dump cell = is_used cell && is_not_so (wholeness dump.image dump.codes cell)

-- how many slots of the directory's way are used
unfoldable pub entry_count : Disk → ℕ
entry_count image = count_by is_used (way_slots image)

-- how many used slots have a file that is whole
unfoldable pub whole_count : DumpView → ℕ
whole_count dump = count_by (is_whole_file dump) (way_slots dump.image)

-- how many used slots have a file that is not whole
unfoldable pub unwhole_count : DumpView → ℕ
unwhole_count dump = count_by (is_unwhole_file dump) (way_slots dump.image)

-- whether an image has no fault
abbrev pub is_sound : Disk → Bool
is_sound image = length (faults image) == 0

-- whether there is a fault, a read error, a file that is not whole or a doubt
unfoldable pub is_amiss : DumpView → Bool
is_amiss dump =
    not (is_sound dump.image)
    || (not (length (read_errors dump) == 0) || (nat_lt 0 (unwhole_count dump) || not (length (doubts dump.image) == 0)))

-- the counts are those of the files of a dump
pub record AreCounts (dump : DumpView) (counts : FileCounts) : Type 0 where
  pub entries : counts.entries ≡ entry_count dump.image
  pub whole : counts.whole ≡ whole_count dump
  pub unwhole : counts.unwhole ≡ unwhole_count dump
