-- What follows from the definition of doubts.
use Rattle.std.specs.Prelude.{◌≡◌, ◌≢◌, ◌↔◌, ◌==◌, ◌||◌, nat_lt, not, true, List, [], length}
use Rattle.d64_image.specs.Disk.{Disk}
use Rattle.d64_image.specs.Image.{IsSize}
use Rattle.d64_files.specs.Directory.{AllHold}
use Rattle.d64_survey.specs.Dump.{DumpView}
use Rattle.d64_survey.specs.ReadErrors.{read_errors}
use Rattle.d64_survey.specs.Doubts.{doubts}
use Rattle.d64_survey.specs.Inspection.{unwhole_count, is_sound, is_amiss}
use Rattle.d64_survey.specs.declared.doubt.Doubt.{Doubt}

-- whatever its doubts are, an image is sound exactly if it meets all six conditions
abbrev pub SoundWhateverItsDoubts : Type 0
SoundWhateverItsDoubts =
    (image : Disk) → IsSize (length image) → (found : List Doubt) → doubts image ≡ found → (is_sound image ≡ true) ↔ AllHold image 1 6

-- if there is a doubt, something is amiss
abbrev pub AmissWhereDoubtful : Type 0
AmissWhereDoubtful = (dump : DumpView) → doubts dump.image ≢ [] → is_amiss dump ≡ true

-- if there is no doubt, something is amiss exactly if there is a fault, a read error or a file that
-- is not whole
abbrev pub AmissWithoutDoubts : Type 0
AmissWithoutDoubts =
    (dump : DumpView)
    → doubts dump.image ≡ []
    → is_amiss dump ≡ (not (is_sound dump.image) || (not (length (read_errors dump) == 0) || nat_lt 0 (unwhole_count dump)))
