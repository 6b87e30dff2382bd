-- What is printed of an image for people: its line, and below it a line for each fault, read error
-- and file that is not whole. Of many faults with the same number only the first have a line each.
use Rattle.std.specs.Prelude.{ℕ, ◌-◌, ◌==◌, nat_lt, if◌then◌else◌, Bool, true, false, List, [], ◌++◌, filter, length, take, codes, decimal}
use Rattle.std.specs.List.{flat_map, list_any, range_with_len}
use Rattle.d64_image.specs.Disk.{Disk}
use Rattle.d64_survey.specs.Dump.{DumpView}
use Rattle.d64_survey.specs.Doubts.{doubts}
use Rattle.d64_survey.specs.Faults.{faults, number}
use Rattle.d64_survey.specs.Inspection.{is_amiss}
use Rattle.d64_survey.specs.Owners.{way_slots, unowned_count}
use Rattle.d64_survey.specs.ReadErrors.{read_errors}
use Rattle.d64_survey.specs.declared.doubt.Doubt.{Doubt}
use Rattle.d64_survey.specs.declared.doubt.Doubt.TheVariants.{Unowned}
use Rattle.d64_survey.specs.declared.fault.Fault.{Fault}
use Rattle.d64_survey.specs.declared.read_error.ReadError.{ReadError}
use Rattle.host_storage.specs.Shown.{shown_name}
use Rattle.out_messages.specs.Words.{line_below}
use Rattle.out_messages.specs.DoubtText.{unowned_text}
use Rattle.out_messages.specs.FaultText.{fault_text, read_error_text}
use Rattle.out_messages.specs.StateText.{label_text, contents_text, state_text}
use Rattle.cmd_check.specs.FileLines.{file_lines}

-- the image's line
unfoldable pub image_line : List ℕ → DumpView → List ℕ
image_line name dump =
    shown_name name ++ (codes ": " ++ (label_text dump.image ++ (codes ", " ++ (contents_text dump.image ++ (codes ": " ++ (state_text dump ++ codes "\n"))))))

-- the line of a fault
abbrev pub fault_line : Disk → Fault → List ℕ
fault_line image fault = line_below (fault_text image fault)

-- how many faults with the same number have a line each
abbrev pub most_lines : ℕ
most_lines = 10

-- how many more there are
unfoldable pub more_faults_text : ℕ → List ℕ
more_faults_text count = codes "and " ++ (decimal count ++ codes " more of these")

-- the line for the faults beyond the first, if there are any
unfoldable pub more_line : ℕ → List ℕ
more_line count = if nat_lt most_lines count then line_below (more_faults_text (count - most_lines)) else []

-- a line for each of the first faults of a list, and one for the others
abbrev pub first_lines : Disk → List Fault → List ℕ
first_lines image list = flat_map (fault_line image) (take most_lines list) ++ more_line (length list)

-- the faults with this number
abbrev pub faults_of : List Fault → ℕ → List Fault
faults_of list condition = filter (λ fault. number fault == condition) list

-- the lines of all faults, by their numbers, from 1 to 6
unfoldable pub fault_lines : Disk → List Fault → List ℕ
fault_lines image list = flat_map (λ condition. first_lines image (faults_of list condition)) (range_with_len 1 6)

-- a line for each read error
unfoldable pub read_error_lines : Disk → List ReadError → List ℕ
read_error_lines image list = flat_map (λ error. line_below (read_error_text image error)) list

-- the line for this many blocks that nothing owns, if there are any
unfoldable pub unowned_by : ℕ → List ℕ
unowned_by count = if count == 0 then [] else line_below (unowned_text count)

-- a doubt is that blocks belong to no file
abbrev pub is_of_unowned : Doubt → Bool
is_of_unowned Unowned = true
is_of_unowned doubt = false

-- this line, if something is wrong and these blocks are not a doubt, which the image's line names
unfoldable pub unowned_line : DumpView → List ℕ
unowned_line dump =
    if is_amiss dump then (if list_any is_of_unowned (doubts dump.image) then [] else unowned_by (unowned_count dump.image)) else []

-- the text of an image
unfoldable pub check_text : List ℕ → DumpView → List ℕ
check_text name dump =
    image_line name dump
    ++ (fault_lines dump.image (faults dump.image)
    ++ (read_error_lines dump.image (read_errors dump) ++ (file_lines dump (way_slots dump.image) ++ unowned_line dump)))
