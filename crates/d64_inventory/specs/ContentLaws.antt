-- What follows from the definition of a content.
use Rattle.std.specs.Prelude.{◌≡◌, true, if◌then◌else◌, Some, None, is_some}
use Rattle.d64_image.specs.Disk.{Disk, Bytes}
use Rattle.d64_files.specs.Slot.{is_used}
use Rattle.d64_files.specs.Reading.{file_refusal, file_content}
use Rattle.d64_inventory.specs.Contents.{content_of}

-- a used slot has a content exactly if reading its file succeeds, and the content is what that
-- gives
abbrev pub ContentIsWhatIsRead : Type 0
ContentIsWhatIsRead =
    (image : Disk) (cell : Bytes) → is_used cell ≡ true → content_of image cell ≡ (if is_some (file_refusal image cell) then None else Some (file_content image cell))
