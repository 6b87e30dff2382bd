-- What is printed of a change for people: lines of the old dump after `-`, lines of the new one
-- after `+`.
use Rattle.std.specs.Prelude.{ℕ, nat_eq, if◌then◌else◌, Bool, List, [], ◌++◌, length, is_some, codes, decimal}
use Rattle.std.specs.List.{flat_map}
use Rattle.std.specs.Cmp.Lexicographic.{pointwise}
use Rattle.petscii.specs.Spelling.{spelling}
use Rattle.d64_image.specs.Disk.{Disk, Blocks, Bytes}
use Rattle.d64_image.specs.Image.{tracks_of}
use Rattle.d64_map.specs.Map.{blocks_free}
use Rattle.d64_survey.specs.Dump.{DumpView}
use Rattle.d64_files.specs.DiskHeader.{disk_dos}
use Rattle.out_messages.specs.StateText.{label_text}
use Rattle.host_storage.specs.Shown.{shown_name}
use Rattle.out_messages.specs.Words.{counted_text, block_text}
use Rattle.out_files.specs.FileTable.{slot_line}
use Rattle.cmd_diff.specs.Changes.{DumpChange, DiskChanged, Added, Removed, FileChanged, BlocksChanged, CodesChanged}

-- whether there are read codes
abbrev pub read_codes_text : Bool → List ℕ
read_codes_text has_codes = if has_codes then codes ", with read codes\n" else codes "\n"

-- the DOS version
unfoldable pub dos_text : Disk → List ℕ
dos_text image = codes " " ++ (spelling (disk_dos image) ++ codes ", ")

-- how many tracks there are
unfoldable pub tracks_text : Disk → List ℕ
tracks_text image = decimal (tracks_of (length image)) ++ codes " tracks, "

-- how many blocks are free
unfoldable pub free_text : Disk → List ℕ
free_text image = counted_text (blocks_free image) (codes "block") ++ codes " free"

-- what the disk's line says after its label
unfoldable pub disk_size_text : DumpView → List ℕ
disk_size_text dump = dos_text dump.image ++ (tracks_text dump.image ++ (free_text dump.image ++ read_codes_text (is_some dump.codes)))

-- the disk's line
unfoldable pub disk_line : DumpView → List ℕ
disk_line dump = codes "disk " ++ (label_text dump.image ++ disk_size_text dump)

-- a line of the old dump
abbrev pub old_line : List ℕ → List ℕ
old_line line = codes "-" ++ line

-- a line of the new dump
abbrev pub new_line : List ℕ → List ℕ
new_line line = codes "+" ++ line

-- the line for a file that changed although its two lines are equal
abbrev pub same_line : List ℕ → List ℕ → List ℕ
same_line old new = if pointwise nat_eq old new then codes "  (the same line, but the file's content, blocks or entry differ)\n" else []

-- the two lines of a file, and what is added if they are equal
unfoldable pub both_lines : List ℕ → List ℕ → List ℕ
both_lines old new = old_line old ++ (new_line new ++ same_line old new)

-- a block in a list
abbrev pub listed_block : ℕ → List ℕ
listed_block block = codes " " ++ block_text block

-- a line of blocks
unfoldable pub blocks_line : List ℕ → Blocks → List ℕ
blocks_line word blocks = word ++ (flat_map listed_block blocks ++ codes "\n")

-- what is printed of a change
abbrev pub change_lines : DumpChange → List ℕ
change_lines (DiskChanged old new) = old_line (disk_line old) ++ new_line (disk_line new)
change_lines (Added new) = new_line (slot_line new)
change_lines (Removed old) = old_line (slot_line old)
change_lines (FileChanged old new) = both_lines (slot_line old) (slot_line new)
change_lines (BlocksChanged blocks) = blocks_line (codes "blocks that differ:") blocks
change_lines (CodesChanged blocks) = blocks_line (codes "blocks whose read codes differ:") blocks

-- the names of the dumps, before all changes
unfoldable pub heading : Bytes → Bytes → List ℕ
heading old new = codes "--- " ++ (shown_name old ++ (codes "\n+++ " ++ (shown_name new ++ codes "\n")))
