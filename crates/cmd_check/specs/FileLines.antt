-- The files that are not whole, a line for each.
use Rattle.std.specs.Prelude.{if◌then◌else◌, ℕ, List, [], ◌++◌, length, codes}
use Rattle.std.specs.List.{flat_map}
use Rattle.d64_image.specs.Disk.{Disk, Bytes}
use Rattle.d64_files.specs.Slot.{name_of, size_of}
use Rattle.d64_survey.specs.Dump.{DumpView}
use Rattle.d64_survey.specs.Flaws.{why}
use Rattle.d64_survey.specs.Inspection.{is_unwhole_file}
use Rattle.d64_survey.specs.SlotBlocks.{slot_blocks}
use Rattle.d64_survey.specs.declared.flaw.Flaw.{Flaw}
use Rattle.out_messages.specs.Names.{quoted_name}
use Rattle.out_messages.specs.Words.{line_below}
use Rattle.out_messages.specs.FileText.{letters_of, flaws_text}

-- a file that is not whole, for these reasons
unfoldable pub file_text : Disk → Bytes → List Flaw → List ℕ
file_text image cell flaws = quoted_name (name_of cell) ++ (codes " " ++ (letters_of cell ++ (codes ": " ++ flaws_text (size_of cell) (length (slot_blocks image cell)) flaws)))

-- the line of a slot, if its file is not whole
unfoldable pub file_line : DumpView → Bytes → List ℕ
file_line dump cell = if is_unwhole_file dump cell then line_below (file_text dump.image cell (why dump.image dump.codes cell)) else []

-- a line for each file that is not whole
unfoldable pub file_lines : DumpView → List Bytes → List ℕ
file_lines dump cells = flat_map (file_line dump) cells
