-- What is printed of one dump: an object of JSON, and a row of CSV.
use Rattle.std.specs.Prelude.{ℕ, List, [], ◌∷◌, ◌++◌, length, map, Option, option_map, is_some, decimal, codes}
use Rattle.std.specs.Option.{option_map_or}
use Rattle.json.specs.Json.{Json, boolean, string}
use Rattle.hex.specs.Hex.{encode_lower}
use Rattle.petscii.specs.Spelling.{spelling}
use Rattle.d64_image.specs.Disk.{Disk, Bytes}
use Rattle.d64_image.specs.Image.{tracks_of}
use Rattle.d64_map.specs.Map.{blocks_free}
use Rattle.d64_files.specs.DiskHeader.{disk_dos, disk_id, disk_name}
use Rattle.d64_survey.specs.Dump.{DumpView}
use Rattle.d64_survey.specs.Owners.{unowned_count}
use Rattle.d64_survey.specs.Faults.{faults}
use Rattle.d64_survey.specs.ReadErrors.{read_errors}
use Rattle.d64_survey.specs.Doubts.{doubts}
use Rattle.d64_survey.specs.Inspection.{entry_count, whole_count, is_sound, is_amiss}
use Rattle.out_json_csv.specs.Values.{Field, object_of, array_of, numeral}
use Rattle.out_json_csv.specs.Names.{label_members}
use Rattle.cmd_check.specs.Findings.{fault_object, read_error_object}
use Rattle.cmd_check.specs.Doubts.{doubt_value, doubt_names_text}
use Rattle.out_json_csv.specs.FailedDumps.{image_member}
use Rattle.out_json_csv.specs.Rows.{truth_text, host_field}
use Rattle.cmd_check.specs.CheckRows.{csv_row_of}

-- the file, the number of tracks, and whether there are read codes
abbrev pub dump_members : DumpView → Bytes → List Field
dump_members dump name = image_member name ∷ (codes "tracks", numeral (tracks_of (length dump.image))) ∷ (codes "codes", boolean (is_some dump.codes)) ∷ []

-- how many slots are used, how many files are whole, how many blocks are free, and how many are
-- neither free nor owned
abbrev pub count_members : DumpView → List Field
count_members dump =
    (codes "entries", numeral (entry_count dump.image)) ∷ (codes "whole", numeral (whole_count dump)) ∷ (codes "free", numeral (blocks_free dump.image))
    ∷ (codes "unowned", numeral (unowned_count dump.image)) ∷ []

-- whether the image is sound, and whether something is amiss
abbrev pub state_members : DumpView → List Field
state_members dump = (codes "sound", boolean (is_sound dump.image)) ∷ (codes "amiss", boolean (is_amiss dump)) ∷ []

-- all faults
abbrev pub fault_list : DumpView → Field
fault_list dump = (codes "faults", array_of (map (fault_object dump.image) (faults dump.image)))

-- all read errors
abbrev pub error_list : DumpView → Field
error_list dump = (codes "read_errors", array_of (map (read_error_object dump.image) (read_errors dump)))

-- all faults and all read errors
abbrev pub finding_members : DumpView → List Field
finding_members dump = fault_list dump ∷ error_list dump ∷ []

-- the digest in hexadecimal digits, if it is asked for
abbrev pub digest_members : Option Bytes → List Field
digest_members digest = option_map_or (λ bytes. (codes "sha256", string (encode_lower bytes)) ∷ []) digest []

-- what makes the image doubtful
abbrev pub doubt_members : DumpView → List Field
doubt_members dump = (codes "doubts", array_of (map doubt_value (doubts dump.image))) ∷ []

-- what is printed of a dump with this host name, and with a digest if it is asked for
unfoldable pub check_object : DumpView → Bytes → Option Bytes → Json
check_object dump name digest =
    object_of
    (dump_members dump name
    ++ (label_members dump.image
    ++ (count_members dump ++ (state_members dump ++ (finding_members dump ++ (digest_members digest ++ doubt_members dump))))))

-- the file, the number of tracks, and whether there are read codes
abbrev pub dump_fields : DumpView → Bytes → List (List ℕ)
dump_fields dump name = host_field name ∷ decimal (tracks_of (length dump.image)) ∷ truth_text (is_some dump.codes) ∷ []

-- the disk's name, its id, and its DOS version, in text form
abbrev pub label_fields : Disk → List (List ℕ)
label_fields image = spelling (disk_name image) ∷ spelling (disk_id image) ∷ spelling (disk_dos image) ∷ []

-- how many slots are used, how many files are whole, how many blocks are free, and how many are
-- neither free nor owned
abbrev pub count_fields : DumpView → List (List ℕ)
count_fields dump =
    decimal (entry_count dump.image) ∷ decimal (whole_count dump) ∷ decimal (blocks_free dump.image) ∷ decimal (unowned_count dump.image) ∷ []

-- whether the image is sound, whether something is amiss, and how many faults and read errors there
-- are
abbrev pub state_fields : DumpView → List (List ℕ)
state_fields dump =
    truth_text (is_sound dump.image) ∷ truth_text (is_amiss dump) ∷ decimal (length (faults dump.image)) ∷ decimal (length (read_errors dump)) ∷ []

-- the columns of a dump before the digest
abbrev pub check_fields : DumpView → Bytes → List (List ℕ)
check_fields dump name = dump_fields dump name ++ (label_fields dump.image ++ (count_fields dump ++ state_fields dump))

-- the row of a dump, with a digest in hexadecimal digits if it is asked for; its error is empty
unfoldable pub check_row : DumpView → Bytes → Option Bytes → List ℕ
check_row dump name digest = csv_row_of (check_fields dump name) (option_map encode_lower digest) (doubt_names_text (doubts dump.image)) []
