-- When deleting files, renaming a file and a validation are refused.
use Rattle.std.specs.Prelude.{if◌then◌else◌, Option, Some, None, option_map}
use Rattle.std.specs.Option.{option_or}
use Rattle.d64_image.specs.Disk.{Disk, Bytes}
use Rattle.d64_files.specs.Directory.{slots, is_name_taken}
use Rattle.d64_files.specs.FirstFault.{first_fault, sound_conditions, owning_conditions}
use Rattle.d64_dos.specs.declared.refusal.Refusal.{Refusal}
use Rattle.d64_dos.specs.declared.refusal.Refusal.TheVariants.{NotFound, Exists, Directory}

-- the first condition of a sound image that fails
abbrev pub unsound_refusal : Disk → Option Refusal
unsound_refusal image = option_map Directory (first_fault image sound_conditions)

-- the first refusal that applies: an unsound image, no file of the old name, one of the new name
unfoldable pub rename_refusal : Disk → Bytes → Bytes → Option Refusal
rename_refusal image old new =
    option_or (unsound_refusal image)
    (if is_name_taken old (slots image) then (if is_name_taken new (slots image) then Some Exists else None) else Some NotFound)

-- the first fault of directory, files and chains, whatever the map says
abbrev pub validate_refusal : Disk → Option Refusal
validate_refusal image = option_map Directory (first_fault image owning_conditions)
