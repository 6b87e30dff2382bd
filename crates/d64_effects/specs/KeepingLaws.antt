-- Files that a command doesn't name keep their slot, their chain and their content.
use Rattle.std.specs.Prelude.{◌≡◌, ◌≢◌, ℕ, true, false, List, length, slice_get, Option, Some, IfSome}
use Rattle.d64_image.specs.Disk.{Disk, Bytes, AreBytes}
use Rattle.d64_files.specs.Name.{IsName, name_in}
use Rattle.d64_files.specs.Directory.{AllHold}
use Rattle.d64_image.specs.Image.{IsImage}
use Rattle.d64_effects.specs.Delete.{scratched_disk}
use Rattle.d64_effects.specs.DiskName.{named_disk}
use Rattle.d64_effects.specs.Laws.{HasRoom, AreTwoBytes, IsWritable}
use Rattle.d64_effects.specs.Rename.{renamed_disk}
use Rattle.d64_effects.specs.Undelete.{CanComeBack, undeleted_disk}
use Rattle.d64_effects.specs.Validate.{validated_disk}
use Rattle.d64_effects.specs.View.{FileView, IsSound, view}
use Rattle.d64_effects.specs.ViewAfter.{is_scratched_file, file_back}
use Rattle.d64_effects.specs.Write.{written_disk}
use Rattle.d64_files.specs.declared.kind.Kind.{Kind}

-- a disk has a file in that slot, in these blocks and with this content
abbrev pub HasFile : Disk → ℕ → FileView → Type 0
HasFile image slot file = slice_get (view image).slots slot ≡ Some (Some file)

-- writing a file keeps every file that was there
abbrev pub WritingKeepsFiles : Type 0
WritingKeepsFiles =
    (image : Disk) (name : Bytes) (kind : Kind) (bytes : Bytes)
    → IsImage image → IsName name → IsWritable kind → AreBytes bytes → IsSound image → HasRoom image (length bytes)
    → (slot : ℕ) (file : FileView) → HasFile image slot file → HasFile (written_disk image name kind bytes) slot file

-- deleting files keeps those that are not closed, or locked, or matched by no pattern
abbrev pub DeletingKeepsOtherFiles : Type 0
DeletingKeepsOtherFiles =
    (image : Disk) (patterns : List Bytes)
    → IsImage image → IsSound image
    → (slot : ℕ) (file : FileView)
    → is_scratched_file patterns file ≡ false → HasFile image slot file → HasFile (scratched_disk image patterns) slot file

-- renaming a file keeps those of other names
abbrev pub RenamingKeepsOtherFiles : Type 0
RenamingKeepsOtherFiles =
    (image : Disk) (old new : Bytes)
    → IsImage image → IsName new → IsSound image
    → (slot : ℕ) (file : FileView) → name_in file.field ≢ old → HasFile image slot file → HasFile (renamed_disk image old new) slot file

-- giving the disk a new name keeps every file
abbrev pub NamingKeepsFiles : Type 0
NamingKeepsFiles =
    (image : Disk) (name : Bytes) (id : Option Bytes)
    → IsImage image → IsName name → IfSome id AreTwoBytes → IsSound image
    → (slot : ℕ) (file : FileView) → HasFile image slot file → HasFile (named_disk image name id) slot file

-- a validation keeps every closed file
abbrev pub ValidatingKeepsClosedFiles : Type 0
ValidatingKeepsClosedFiles =
    (image : Disk)
    → IsImage image → AllHold image 2 5
    → (slot : ℕ) (file : FileView) → file.closed ≡ true → HasFile image slot file → HasFile (validated_disk image) slot file

-- bringing back a deleted file keeps every file, that file is in its slot, and no other came
abbrev pub UndeletingKeepsFiles : Type 0
UndeletingKeepsFiles =
    (image : Disk) (back : ℕ) (kind : Kind)
    → IsImage image → IsSound image → IsWritable kind → CanComeBack image back
    → HasFile (undeleted_disk image back kind) back (file_back image back kind)
    × ((slot : ℕ) (file : FileView) → HasFile image slot file → HasFile (undeleted_disk image back kind) slot file)
    × ((slot : ℕ) (file : FileView) → slot ≢ back → HasFile (undeleted_disk image back kind) slot file → HasFile image slot file)
