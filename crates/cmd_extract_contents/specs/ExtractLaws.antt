-- What follows from the definition of what is written.
use Rattle.std.specs.Prelude.{◌≡◌, ℕ, ◌≤◌, true, false, if◌then◌else◌, List, Option, Some, None, is_some, IfSome, unwrap_or}
use Rattle.d64_image.specs.Disk.{Disk, Bytes}
use Rattle.d64_files.specs.Slot.{is_used, is_closed}
use Rattle.d64_files.specs.Reading.{file_refusal, file_content}
use Rattle.cmd_extract_contents.specs.Portions.{Portion, portion}
use Rattle.cmd_extract_contents.specs.Limits.{written_portions, byte_counts}
use Rattle.cmd_extract_contents.specs.declared.extent.Extent.TheVariants.{Content}

-- if parts are not wanted, the file of a used slot is written if and only if reading it is not
-- refused, with what is read
abbrev pub WrittenIsWhatIsRead : Type 0
WrittenIsWhatIsRead =
    (image : Disk) (cell : Bytes) → is_used cell ≡ true
    → portion false image cell ≡ (if is_some (file_refusal image cell) then None else Some (record { bytes = file_content image cell; extent = Content }))

-- then nothing is written of a file that was not closed
abbrev pub NothingOfUnclosed : Type 0
NothingOfUnclosed = (image : Disk) (cell : Bytes) → is_closed cell ≡ false → portion false image cell ≡ None

-- what is written without parts is written, and stays the same, with parts
abbrev pub PartsChangeNoContent : Type 0
PartsChangeNoContent = (image : Disk) (cell : Bytes) → IfSome (portion false image cell) (λ (file : Portion). portion true image cell ≡ Some file)

-- the files that are written, of whatever there is to write, have together at most as many bytes
-- as they may have
abbrev pub WrittenFits : Type 0
WrittenFits = (left : Option ℕ) (portions : List (Option Portion)) → byte_counts (written_portions left portions) ≤ unwrap_or left 0
