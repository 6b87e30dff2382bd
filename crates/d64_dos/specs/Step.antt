-- The effect of an accepted command on a sound disk and on what it shows.
use Rattle.std.specs.Prelude.{◌≡◌, None, IfSome}
use Rattle.d64_image.specs.Disk.{Disk, AreBytes}
use Rattle.d64_files.specs.Name.{IsName}
use Rattle.d64_image.specs.Image.{IsImage}
use Rattle.d64_effects.specs.Laws.{AreTwoBytes}
use Rattle.d64_effects.specs.View.{IsSound, view}
use Rattle.d64_dos.specs.Change.{Change, Format, Write, Delete, Undelete, Rename, Name, Validate, BlockWrite}
use Rattle.d64_dos.specs.Command.{image_after, reply_to, refusal_of, StartsFrom, ViewStep}
use Rattle.d64_dos.specs.declared.command.Reply.{Reply}

-- the next image is a sound image, and shows what the disk did before with the command's change
pub record Leaves (image : Disk) (change : Change) (reply : Reply) (next : Disk) : Type 0 where
  pub is_image : IsImage next
  pub sound : IsSound next
  pub shows : ViewStep image change reply (view next)

-- a command that a caller can make: its names are valid, and its bytes are below 256
abbrev pub IsMade : Change → Type 0
IsMade (Format name id) = IsName name × AreTwoBytes id
IsMade (Write name kind bytes) = IsName name × AreBytes bytes
IsMade (Delete patterns) = Unit {0}
IsMade (Undelete name kind) = IsName name
IsMade (Rename old new) = IsName old × IsName new
IsMade (Name name id) = IsName name × IfSome id AreTwoBytes
IsMade Validate = Unit {0}
IsMade (BlockWrite at block) = Unit {0}

-- an accepted file command leaves a sound disk, which shows the command's change and nothing else
abbrev pub FileCommandsKeepDisksSound : Type 0
FileCommandsKeepDisksSound =
    (image : Disk) (change : Change)
    → IsImage image → IsMade change → refusal_of image change ≡ None → StartsFrom change image
    → Leaves image change (reply_to image change) (image_after image change)
