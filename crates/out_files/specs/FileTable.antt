-- The files of an image as a table for people.
use Rattle.std.specs.Prelude.{ℕ, ◌+◌, ◌-◌, ◌^◌, ◌==◌, ◌||◌, min, nat_eq, Bool, true, false, if◌then◌else◌, List, [], ◌++◌, length, replicate, unwrap_or, Option, Some, None, codes, decimal}
use Rattle.std.specs.List.{flat_map, list_any}
use Rattle.std.specs.Option.{option_map_or}
use Rattle.d64_image.specs.Disk.{Disk, Bytes}
use Rattle.d64_map.specs.Map.{map_block}
use Rattle.d64_files.specs.Name.{name_in}
use Rattle.d64_files.specs.declared.kind.Kind.{Kind}
use Rattle.d64_survey.specs.Dump.{DumpView}
use Rattle.d64_survey.specs.Faults.{faults, number}
use Rattle.d64_survey.specs.Owners.{directory_way}
use Rattle.d64_survey.specs.ReadErrors.{read_errors}
use Rattle.d64_survey.specs.declared.fault.Fault.{Fault}
use Rattle.d64_survey.specs.declared.read_error.ReadError.{ReadError}
use Rattle.d64_inventory.specs.Rows.{FileRowView}
use Rattle.out_messages.specs.StateText.{label_text}
use Rattle.out_messages.specs.FaultText.{fault_text, read_error_text}
use Rattle.out_messages.specs.FileText.{kind_letters, locked_text, flaws_text}
use Rattle.out_messages.specs.Names.{quoted_name}
use Rattle.host_storage.specs.Shown.{shown_name}
use Rattle.out_messages.specs.Words.{line_below}

-- this many spaces
abbrev pub spaces : ℕ → List ℕ
spaces count = replicate count 32

-- a text, right-aligned to this width; all of a longer text
abbrev pub right_in : ℕ → List ℕ → List ℕ
right_in width text = spaces (width - length text) ++ text

-- a text, left-aligned to this width; all of a longer text
abbrev pub left_in : ℕ → List ℕ → List ℕ
left_in width text = text ++ spaces (width - length text)

-- the image's line: its host name, the disk's name and its id
unfoldable pub head_line : Bytes → Disk → List ℕ
head_line name image = shown_name name ++ (codes " " ++ (label_text image ++ codes "\n"))

-- how many blocks of a file are there: those of its data chain and of its side chain, as far as 64
-- bits count
abbrev pub blocks_there : FileRowView → ℕ
blocks_there row = min (unwrap_or row.blocks 0 + unwrap_or row.side 0) (2 ^ 64 - 1)

-- why the file is not whole, or why that is not known
unfoldable pub reasons : FileRowView → List ℕ
reasons row = flaws_text row.size (blocks_there row) row.why

-- that it is not known whether the file is whole, and why, if there is more to say
unfoldable pub unknown_text : FileRowView → List ℕ
unknown_text row = codes "not known" ++ (if length row.why == 0 then [] else codes ": " ++ reasons row)

-- whether the file is whole, or what is wrong with it; None means that it is not known
abbrev pub state_by : Option Bool → FileRowView → List ℕ
state_by None row = unknown_text row
state_by (Some true) row = codes "whole"
state_by (Some false) row = reasons row

-- the letters of a kind
abbrev pub kind_text : Option Kind → List ℕ
kind_text kind = option_map_or kind_letters kind (codes "???")

-- what a line says of a file after its name
unfoldable pub file_state_text : FileRowView → List ℕ
file_state_text row = kind_text row.kind ++ (codes "   " ++ (state_by row.whole row ++ locked_text row.locked))

-- the text of a used slot: the size, the name, the kind, and whether the file is whole
unfoldable pub slot_text : FileRowView → List ℕ
slot_text row = right_in 5 (decimal row.size) ++ (codes " " ++ (left_in 18 (quoted_name (name_in row.field)) ++ (codes " " ++ file_state_text row)))

-- the line of a used slot
unfoldable pub slot_line : FileRowView → List ℕ
slot_line row = slot_text row ++ codes "\n"

-- a line with this text, which says at its end that files may be missing
abbrev pub may_be_missing : List ℕ → List ℕ
may_be_missing text = line_below (text ++ codes ", so files may be missing")

-- the line of a fault of the directory's chain
unfoldable pub broken_line : Disk → Fault → List ℕ
broken_line image fault = if number fault == 2 then may_be_missing (fault_text image fault) else []

-- a line for each of these faults
unfoldable pub broken_lines : Disk → List Fault → List ℕ
broken_lines image list = flat_map (broken_line image) list

-- a block is the map's or one of the directory's chain
abbrev pub is_of_directory : Disk → ℕ → Bool
is_of_directory image block = nat_eq map_block block || list_any (λ own. nat_eq own block) (directory_way image).0

-- the line of a read error in such a block
unfoldable pub unreadable_line : Disk → ReadError → List ℕ
unreadable_line image error = if is_of_directory image error.block then may_be_missing (read_error_text image error) else []

-- a line for each of these read errors
unfoldable pub unreadable_lines : Disk → List ReadError → List ℕ
unreadable_lines image list = flat_map (unreadable_line image) list

-- a line for each reason why files may be missing from the table
unfoldable pub missing_lines : DumpView → List ℕ
missing_lines dump = broken_lines dump.image (faults dump.image) ++ unreadable_lines dump.image (read_errors dump)
