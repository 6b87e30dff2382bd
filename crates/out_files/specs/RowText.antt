-- A row of an image as a line for people.
use Rattle.std.specs.Prelude.{ℕ, List, ◌++◌, codes}
use Rattle.d64_image.specs.Disk.{Disk}
use Rattle.d64_leftovers.specs.declared.row.ListedRow.{ListedRow}
use Rattle.d64_leftovers.specs.declared.row.ListedRow.TheVariants.{File, Deleted, Orphan}
use Rattle.out_files.specs.FileTable.{slot_text}
use Rattle.out_files.specs.DeletedTable.{deleted_text}
use Rattle.out_files.specs.OrphanTable.{orphan_text}

-- the text of a row on a line
abbrev pub row_text : Disk → ListedRow → List ℕ
row_text image (File row) = slot_text row
row_text image (Deleted row) = deleted_text image row
row_text image (Orphan row) = orphan_text row

-- the line of a row
abbrev pub line_of_row : Disk → ListedRow → List ℕ
line_of_row image row = row_text image row ++ codes "\n"
