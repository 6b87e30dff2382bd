-- The effect of the commands on the directory's list of names and contents: on disks, and on views,
-- whose steps are these steps on that list.
use Rattle.std.specs.Prelude.{◌≡◌, ℕ, not, List, [], length, filter, slice_get, Option, Some, None, IfSome}
use Rattle.d64_image.specs.Disk.{Disk, Bytes, AreBytes}
use Rattle.d64_image.specs.Image.{IsSize, IsImage}
use Rattle.d64_files.specs.Directory.{AllHold}
use Rattle.d64_files.specs.Name.{IsName}
use Rattle.d64_files.specs.Writing.{blocks_for}
use Rattle.d64_effects.specs.Contents.{ListedFile, listed_file, names_and_contents}
use Rattle.d64_effects.specs.ContentsAfter.{list_with, new_row, files_before, is_scratched_row, renamed_rows}
use Rattle.d64_effects.specs.Delete.{scratched_disk}
use Rattle.d64_effects.specs.DiskName.{named_disk}
use Rattle.d64_effects.specs.Format.{formatted_disk}
use Rattle.d64_effects.specs.Laws.{AreTwoBytes, HasRoom, IsWritable}
use Rattle.d64_effects.specs.Rename.{renamed_disk}
use Rattle.d64_effects.specs.Undelete.{CanComeBack, undeleted_disk}
use Rattle.d64_effects.specs.Validate.{validated_disk}
use Rattle.d64_effects.specs.View.{View, IsSound, view}
use Rattle.d64_effects.specs.ViewAfter.{formatted_view, written_view, first_vacant, scratched_view, renamed_view, named_view, validated_view, file_back, undeleted_view}
use Rattle.d64_effects.specs.Write.{taken_by, written_disk}
use Rattle.d64_files.specs.declared.kind.Kind.{Kind}

-- a formatted disk lists nothing
abbrev pub FormattedListsNothing : Type 0
FormattedListsNothing = (count : ℕ) (name id : Bytes) → names_and_contents (formatted_view count name id) ≡ []

-- writing a file puts that file into the list: at the place of the first empty slot, before which
-- all are used, or at the end
abbrev pub WrittenListsTheFile : Type 0
WrittenListsTheFile =
    (shown : View) (name : Bytes) (kind : Kind) (bytes : Bytes)
    → IsName name
    → names_and_contents (written_view shown name kind bytes)
    ≡ list_with (names_and_contents shown) (first_vacant shown) (new_row name kind bytes (length (taken_by shown.free (length bytes))))

-- deleting files keeps the others in the list
abbrev pub ScratchedListsTheOthers : Type 0
ScratchedListsTheOthers =
    (shown : View) (patterns : List Bytes)
    → names_and_contents (scratched_view shown patterns) ≡ filter (λ row. not (is_scratched_row patterns row)) (names_and_contents shown)

-- renaming a file changes its name in the list
abbrev pub RenamedListsTheName : Type 0
RenamedListsTheName =
    (shown : View) (old new : Bytes)
    → IsName new → names_and_contents (renamed_view shown old new) ≡ renamed_rows (names_and_contents shown) old new

-- giving the disk a new name keeps the list as it was
abbrev pub NamedListsTheSame : Type 0
NamedListsTheSame = (shown : View) (name : Bytes) (id : Option Bytes) → names_and_contents (named_view shown name id) ≡ names_and_contents shown

-- a validation keeps the closed files in the list
abbrev pub ValidatedListsTheClosed : Type 0
ValidatedListsTheClosed =
    (shown : View) → names_and_contents (validated_view shown) ≡ filter (λ row. row.closed) (names_and_contents shown)

-- a deleted file comes back behind the files of the slots before its own
abbrev pub UndeletedListsTheFile : Type 0
UndeletedListsTheFile =
    (image : Disk) (shown : View) (slot : ℕ) (kind : Kind)
    → slice_get shown.slots slot ≡ Some None
    → names_and_contents (undeleted_view image shown slot kind)
    ≡ list_with (names_and_contents shown) (Some (files_before shown slot)) (listed_file (file_back image slot kind))

-- the directory's list of a disk
abbrev pub files_of : Disk → List ListedFile
files_of image = names_and_contents (view image)

-- a formatted disk lists nothing
abbrev pub FormattedDiskHasNoFiles : Type 0
FormattedDiskHasNoFiles =
    (count : ℕ) (name id : Bytes) → IsSize count → IsName name → AreTwoBytes id → files_of (formatted_disk count name id) ≡ []

-- a sound disk with a new file lists that file, of as many blocks as its bytes need, beside the
-- others
abbrev pub WrittenDiskLists : Type 0
WrittenDiskLists =
    (image : Disk) (name : Bytes) (kind : Kind) (bytes : Bytes)
    → IsImage image → IsName name → IsWritable kind → AreBytes bytes → IsSound image → HasRoom image (length bytes)
    → files_of (written_disk image name kind bytes)
    ≡ list_with (files_of image) (first_vacant (view image)) (new_row name kind bytes (blocks_for (length bytes)))

-- a sound disk from which files are deleted lists the others
abbrev pub ScratchedDiskLists : Type 0
ScratchedDiskLists =
    (image : Disk) (patterns : List Bytes)
    → IsImage image → IsSound image → files_of (scratched_disk image patterns) ≡ filter (λ row. not (is_scratched_row patterns row)) (files_of image)

-- a sound disk on which a file is renamed lists it under its new name
abbrev pub RenamedDiskLists : Type 0
RenamedDiskLists =
    (image : Disk) (old new : Bytes)
    → IsImage image → IsName new → IsSound image → files_of (renamed_disk image old new) ≡ renamed_rows (files_of image) old new

-- a sound disk that is given another name lists the same files
abbrev pub NamedDiskLists : Type 0
NamedDiskLists =
    (image : Disk) (name : Bytes) (id : Option Bytes)
    → IsImage image → IsName name → IfSome id AreTwoBytes → IsSound image → files_of (named_disk image name id) ≡ files_of image

-- a validated disk lists the closed files
abbrev pub ValidatedDiskLists : Type 0
ValidatedDiskLists =
    (image : Disk) → IsImage image → AllHold image 2 5 → files_of (validated_disk image) ≡ filter (λ row. row.closed) (files_of image)

-- a sound disk to which a deleted file comes back lists that file, behind those of the slots before
-- its own, beside the others
abbrev pub UndeletedDiskLists : Type 0
UndeletedDiskLists =
    (image : Disk) (slot : ℕ) (kind : Kind)
    → IsImage image → IsSound image → IsWritable kind → CanComeBack image slot
    → files_of (undeleted_disk image slot kind)
    ≡ list_with (files_of image) (Some (files_before (view image) slot)) (listed_file (file_back image slot kind))
