-- The table of the files on a disk.
use Rattle.std.specs.Prelude.{ℕ, ◌==◌, if◌then◌else◌, Bool, true, false, List, [], ◌∷◌, ◌++◌, length, Option, Some, None, codes, decimal}
use Rattle.std.specs.List.{flat_map}
use Rattle.d64_image.specs.Disk.{Disk, Bytes}
use Rattle.d64_files.specs.Directory.{entries}
use Rattle.d64_files.specs.Slot.{EntryView, is_used, is_locked, size_of, name_of}
use Rattle.d64_survey.specs.Dump.{DumpView}
use Rattle.d64_survey.specs.Flaws.{why, wholeness_by}
use Rattle.d64_survey.specs.Owners.{way_slots}
use Rattle.d64_survey.specs.SlotBlocks.{slot_blocks}
use Rattle.d64_survey.specs.declared.flaw.Flaw.{Flaw}
use Rattle.petscii.specs.Spelling.{spelling}
use Rattle.out_messages.specs.FileText.{letters_of, locked_text, flaws_text}
use Rattle.out_markup.specs.Markup.{element}
use Rattle.cmd_catalogue.specs.Elements.{linked_text_in, text_in}
use Rattle.cmd_catalogue.specs.Links.{Naming, file_url, first_naming, naming_after}

-- why the file of a slot is not whole, or why that is not known
unfoldable pub slot_reasons : Disk → Bytes → List Flaw → List ℕ
slot_reasons image cell flaws = flaws_text (size_of cell) (length (slot_blocks image cell)) flaws

-- that it is not known whether the file is whole, and why, if there is more to say
unfoldable pub slot_unknown_text : Disk → Bytes → List Flaw → List ℕ
slot_unknown_text image cell flaws = codes "not known" ++ (if length flaws == 0 then [] else codes ": " ++ slot_reasons image cell flaws)

-- whether the file is whole, or what is wrong with it; None means that it is not known
abbrev pub wholeness_text : Option Bool → Disk → Bytes → List Flaw → List ℕ
wholeness_text None image cell flaws = slot_unknown_text image cell flaws
wholeness_text (Some true) image cell flaws = codes "whole"
wholeness_text (Some false) image cell flaws = slot_reasons image cell flaws

-- the state of the file of a slot with these flaws
unfoldable pub slot_state_words : Disk → Bytes → List Flaw → List ℕ
slot_state_words image cell flaws = wholeness_text (wholeness_by cell flaws) image cell flaws ++ locked_text (is_locked cell)

-- the attribute that gives a state its look
abbrev pub state_class : Option Bool → List ℕ
state_class None = codes " class=\"unknown\""
state_class (Some true) = codes " class=\"whole\""
state_class (Some false) = codes " class=\"broken\""

-- the cell of the state
unfoldable pub state_cell : Disk → Bytes → List Flaw → List ℕ
state_cell image cell flaws = text_in (codes "td") (state_class (wholeness_by cell flaws)) (slot_state_words image cell flaws)

-- the size that the directory gives
unfoldable pub size_cell : Bytes → List ℕ
size_cell cell = text_in (codes "td") [] (decimal (size_of cell))

-- the name in text form, with this link; it is the header of its row
unfoldable pub name_cell : Option (List ℕ) → Bytes → List ℕ
name_cell link cell = linked_text_in (codes "th") (codes " scope=\"row\"") link (spelling (name_of cell))

-- the letters of the kind
unfoldable pub kind_cell : Bytes → List ℕ
kind_cell cell = text_in (codes "td") [] (letters_of cell)

-- all cells of a file with these flaws and this link
unfoldable pub file_cells : Option (List ℕ) → Disk → Bytes → List Flaw → List ℕ
file_cells link image cell flaws = size_cell cell ++ (name_cell link cell ++ (kind_cell cell ++ state_cell image cell flaws))

-- the row of such a file
unfoldable pub flawed_row : Option (List ℕ) → Disk → Bytes → List Flaw → List ℕ
flawed_row link image cell flaws = element (codes "tr") [] (file_cells link image cell flaws) ++ codes "\n"

-- the row of the file of a slot, with this link
unfoldable pub used_row : Option (List ℕ) → DumpView → Bytes → List ℕ
used_row link dump cell = flawed_row link dump.image cell (why dump.image dump.codes cell)

-- the row of a slot, if it is used
unfoldable pub file_row : DumpView → Bytes → List ℕ
file_row dump cell = if is_used cell then used_row None dump cell else []

-- the rows of all files
unfoldable pub file_rows : DumpView → List Bytes → List ℕ
file_rows dump cells = flat_map (file_row dump) cells

-- the rows of entries, each with a link to its host file in a folder, if that is written
unfoldable pub linked_rows : List ℕ → DumpView → Naming → List EntryView → List ℕ
linked_rows folder dump naming [] = []
linked_rows folder dump naming (entry ∷ rest) =
    if is_used entry.bytes
    then used_row (file_url folder dump naming entry) dump entry.bytes ++ linked_rows folder dump (naming_after dump naming entry) rest
    else linked_rows folder dump naming rest

-- the rows of a dump, with links to host files in this folder, if there is one
unfoldable pub dump_rows : Option (List ℕ) → DumpView → List ℕ
dump_rows None dump = file_rows dump (way_slots dump.image)
dump_rows (Some folder) dump = linked_rows folder dump first_naming (entries dump.image (way_slots dump.image))

-- the headers of the columns
unfoldable pub table_head : List ℕ
table_head =
    codes "<thead><tr><th scope=\"col\">Blocks</th><th scope=\"col\">Name</th><th scope=\"col\">Kind</th><th scope=\"col\">State</th></tr></thead>\n"

-- the table, with links to host files in this folder, if there is one
unfoldable pub table : Option (List ℕ) → DumpView → List ℕ
table folder dump = element (codes "table") [] (codes "\n" ++ (table_head ++ element (codes "tbody") [] (codes "\n" ++ dump_rows folder dump))) ++ codes "\n"
