-- Why what was deleted under a name is lost, in plain words.
use Rattle.std.specs.Prelude.{◌≡◌, ◌&&◌, Bool, true, false, not, if◌then◌else◌, List, [], ◌∷◌, ◌++◌, find, Option, Some, None, Ok, codes}
use Rattle.std.specs.List.{list_any}
use Rattle.std.specs.Option.{option_map_or, option_or}
use Rattle.d64_image.specs.Disk.{Bytes, Disk}
use Rattle.d64_files.specs.Name.{is_name}
use Rattle.d64_files.specs.Slot.{EntryView}
use Rattle.d64_files.specs.declared.kind.Kind.{Kind}
use Rattle.d64_scratched.specs.Scratched.{is_fatal, losses}
use Rattle.d64_scratched.specs.declared.loss.Loss.{Loss}
use Rattle.d64_scratched.specs.declared.loss.Loss.TheVariants.{Chain, Reused, Marked, Size, Claimed, Unreadable}
use Rattle.script_lines.specs.Act.{IsSpelled}
use Rattle.script_lines.specs.Arguments.{name_and_kind_in}
use Rattle.script_lines.specs.declared.status.Status.{Status}
use Rattle.script_lines.specs.declared.status.Status.TheVariants.{FileLost}
use Rattle.script_advice.specs.Advice.{name_part}
use Rattle.script_advice.specs.Found.{is_deleted_as, listed_slots}

-- the text for a reason; empty for a reason for which no file is lost
unfoldable pub loss_reason_text : Loss → Bytes
loss_reason_text Chain = codes ": its chain of blocks is broken"
loss_reason_text Reused = codes ": a block of it was used again"
loss_reason_text Marked = codes ": a block of it is marked used, and belongs to no file; validate frees such blocks"
loss_reason_text Size = codes ": it has not as many blocks as its entry shows"
loss_reason_text Claimed = []
loss_reason_text Unreadable = []

-- after the start of a line, that what was deleted under this name is lost, and for which reason
unfoldable pub lost_about : Bytes → Bytes → Loss → Bytes
lost_about start name loss = ((((start ++ codes "what was deleted as \"") ++ name) ++ codes "\" is lost") ++ loss_reason_text loss) ++ codes "\n"

-- a reason is that a block is marked used
abbrev pub is_marked_used : Loss → Bool
is_marked_used Marked = true
is_marked_used loss = false

-- a file is lost for this reason, which is another one
abbrev pub is_grave : Loss → Bool
is_grave loss = is_fatal loss && not (is_marked_used loss)

-- the reason that is reported of those for which a file is not whole: the first for which it is
-- lost, but that a block is marked used only if there is no other
abbrev pub reported_loss : List Loss → Option Loss
reported_loss losses = option_or (find is_grave losses) (if list_any is_marked_used losses then Some Marked else None)

-- the reason that is reported of an entry, if it is that of a deleted file of this name
abbrev pub loss_of_entry : Disk → Bytes → EntryView → Option Loss
loss_of_entry image name entry = if is_deleted_as name entry then reported_loss (losses image None entry.slot entry.bytes) else None

-- the first reason that is reported of some entries
abbrev pub first_loss : Disk → Bytes → List EntryView → Option Loss
first_loss image name [] = None
first_loss image name (entry ∷ others) = option_or (loss_of_entry image name entry) (first_loss image name others)

-- why the deleted files of a name are lost: that a block is marked used, if that is all that is
-- wrong with one of them; else what is wrong with the first
abbrev pub loss_of : Disk → Bytes → Option Loss
loss_of image name =
    if list_any (λ (entry : EntryView). option_map_or is_marked_used (loss_of_entry image name entry) false) (listed_slots image) then Some Marked
    else first_loss image name (listed_slots image)

-- an argument that may have the letter of a type behind a comma names this file
abbrev pub IsFileNamed : Bytes → Bytes → Type 0
IsFileNamed argument name = (text : Bytes) × (kind : Kind) × (name_and_kind_in argument ≡ Ok (text, kind)) × IsSpelled is_name text name

-- a line that says so, if the status is that of such a file
abbrev pub IsLostLine : Disk → Bytes → Bytes → Status → Bytes → Type 0
IsLostLine image start argument FileLost line =
    (name : Bytes) × (loss : Loss) × IsFileNamed argument name × (loss_of image name ≡ Some loss) × (line ≡ lost_about start (name_part argument) loss)
IsLostLine image start argument status line = ⊥
