-- How files are taken out of images, by the options.
use Rattle.std.specs.Prelude.{◌≡◌, ◌≢◌, List, [], Option, Some, codes, string_bytes, unwrap_or}
use Rattle.clap.specs.Words.{Row, Text, first_of}
use Rattle.program_arguments.specs.Values.{has_flag}
use Rattle.program_arguments.specs.declared.jobs.Extraction.{Extraction}

-- the folder that `--into` gives, or `.` without it
abbrev pub folder_by : List Row → Text
folder_by rows = unwrap_or (first_of (codes "into") rows) (codes ".")

-- the name that it gives is empty
abbrev pub HasNoFolder : Option Text → Type 0
HasNoFolder into = into ≡ Some []

-- files go into this folder, whose name is not empty; parts are written too if `--part` is given,
-- and folders that exist are skipped if `--skip-existing` is
abbrev pub IsExtractionBy : List Row → Extraction → Type 0
IsExtractionBy rows extraction =
    (string_bytes extraction.into ≡ folder_by rows) × (folder_by rows ≢ []) × (extraction.part ≡ has_flag (codes "part") rows)
    × (extraction.skip_existing ≡ has_flag (codes "skip-existing") rows)
