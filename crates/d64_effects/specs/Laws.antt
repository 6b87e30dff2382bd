-- What follows from the definitions of the effects.
use Rattle.std.specs.Prelude.{◌≡◌, ◌≢◌, ℕ, ◌-◌, ◌≤◌, List, All, length, filter, Option, None, IfSome}
use Rattle.d64_image.specs.Disk.{Disk, Bytes, AreBytes}
use Rattle.d64_files.specs.Name.{IsName}
use Rattle.d64_files.specs.Directory.{slots, AllHold}
use Rattle.d64_files.specs.Writing.{blocks_for, first_unused, dir_last}
use Rattle.d64_image.specs.Block.{sectors_on}
use Rattle.d64_image.specs.Image.{IsSize, IsImage}
use Rattle.d64_map.specs.Map.{free_blocks, blocks_free, CountsFit}
use Rattle.d64_map.specs.Plan.{room}
use Rattle.d64_effects.specs.Contents.{names_and_contents}
use Rattle.d64_effects.specs.ContentsAfter.{is_scratched_row}
use Rattle.d64_effects.specs.DiskName.{named_disk}
use Rattle.d64_effects.specs.Delete.{scratched_count, scratched_disk}
use Rattle.d64_effects.specs.Format.{formatted_disk, free_when_formatted}
use Rattle.d64_effects.specs.Rename.{renamed_disk}
use Rattle.d64_effects.specs.Undelete.{CanComeBack, undeleted_disk}
use Rattle.d64_effects.specs.Validate.{validated_disk}
use Rattle.d64_effects.specs.View.{IsSound, view}
use Rattle.d64_effects.specs.ViewAfter.{formatted_view, written_view, scratched_view, renamed_view, named_view, validated_view, undeleted_view}
use Rattle.d64_effects.specs.Write.{written_disk, next_of_directory}
use Rattle.d64_files.specs.declared.kind.Kind.{Kind}
use Rattle.d64_files.specs.declared.kind.Kind.TheVariants.{Del, Rel}

-- two bytes, as in an id
abbrev pub AreTwoBytes : Bytes → Type 0
AreTwoBytes id = (length id ≡ 2) × AreBytes id

-- a formatted disk is an image
abbrev pub FormattedIsImage : Type 0
FormattedIsImage = (count : ℕ) (name id : Bytes) → IsSize count → IsName name → AreTwoBytes id → IsImage (formatted_disk count name id)

-- the map of a formatted disk marks all blocks free but its own and the directory's first one,
-- whatever its name and its id are
abbrev pub FormattedIsFree : Type 0
FormattedIsFree = (count : ℕ) (name id : Bytes) → IsSize count → free_blocks (formatted_disk count name id) ≡ free_when_formatted count

-- the counts of a formatted disk's map fit
abbrev pub FormattedCountsFit : Type 0
FormattedCountsFit = (count : ℕ) (name id : Bytes) → IsSize count → CountsFit (formatted_disk count name id)

-- how many blocks the directory of a formatted disk of n blocks shows as free: all but those of
-- track 18, so 664 on 35 tracks, and 749 on 40
abbrev pub free_count_of : ℕ → ℕ
free_count_of count = count - sectors_on 18

-- the directory of a formatted disk shows that many free blocks
abbrev pub FormattedShowsItsFree : Type 0
FormattedShowsItsFree = (count : ℕ) (name id : Bytes) → IsSize count → blocks_free (formatted_disk count name id) ≡ free_count_of count

-- a formatted disk is sound, whatever its name and its id are
abbrev pub FormattedIsSound : Type 0
FormattedIsSound = (count : ℕ) (name id : Bytes) → IsSize count → IsSound (formatted_disk count name id)

-- a formatted disk shows its name and id, and no file
abbrev pub FormattedShows : Type 0
FormattedShows = (count : ℕ) (name id : Bytes) → IsSize count → IsName name → AreTwoBytes id → view (formatted_disk count name id) ≡ formatted_view count name id

-- a disk has room for a file of n bytes and its entry
pub record HasRoom (image : Disk) (bytes : ℕ) : Type 0 where
  pub blocks : blocks_for bytes ≤ room (free_blocks image)
  pub slot : first_unused (slots image) ≡ None → next_of_directory (free_blocks image) (dir_last image) ≢ None

-- a kind of file that can be written
abbrev pub IsWritable : Kind → Type 0
IsWritable kind = (kind ≢ Del) × (kind ≢ Rel)

-- writing a file leaves an image
abbrev pub WrittenIsImage : Type 0
WrittenIsImage =
    (image : Disk) (name : Bytes) (kind : Kind) (bytes : Bytes)
    → IsImage image → IsName name → AreBytes bytes → IsSound image → HasRoom image (length bytes) → IsImage (written_disk image name kind bytes)

-- writing a file leaves a sound image sound
abbrev pub WrittenIsSound : Type 0
WrittenIsSound =
    (image : Disk) (name : Bytes) (kind : Kind) (bytes : Bytes)
    → IsImage image → IsName name → IsWritable kind → AreBytes bytes → IsSound image → HasRoom image (length bytes)
    → IsSound (written_disk image name kind bytes)

-- writing a file changes the view as the definition says
abbrev pub WrittenShows : Type 0
WrittenShows =
    (image : Disk) (name : Bytes) (kind : Kind) (bytes : Bytes)
    → IsImage image → IsName name → IsWritable kind → AreBytes bytes → IsSound image → HasRoom image (length bytes)
    → view (written_disk image name kind bytes) ≡ written_view (view image) name kind bytes

-- renaming a file leaves an image
abbrev pub RenamedIsImage : Type 0
RenamedIsImage = (image : Disk) (old new : Bytes) → IsImage image → IsName new → IsSound image → IsImage (renamed_disk image old new)

-- renaming a file leaves a sound image sound
abbrev pub RenamedIsSound : Type 0
RenamedIsSound = (image : Disk) (old new : Bytes) → IsImage image → IsName new → IsSound image → IsSound (renamed_disk image old new)

-- renaming a file changes the view as the definition says
abbrev pub RenamedShows : Type 0
RenamedShows =
    (image : Disk) (old new : Bytes)
    → IsImage image → IsName new → IsSound image → view (renamed_disk image old new) ≡ renamed_view (view image) old new

-- giving the disk a new name, and a new id, leaves an image
abbrev pub NamedIsImage : Type 0
NamedIsImage = (image : Disk) (name : Bytes) (id : Option Bytes) → IsImage image → IsName name → IfSome id AreTwoBytes → IsImage (named_disk image name id)

-- giving the disk a new name leaves a sound image sound
abbrev pub NamedIsSound : Type 0
NamedIsSound =
    (image : Disk) (name : Bytes) (id : Option Bytes)
    → IsImage image → IsName name → IfSome id AreTwoBytes → IsSound image → IsSound (named_disk image name id)

-- giving the disk a new name changes the view as the definition says
abbrev pub NamedShows : Type 0
NamedShows =
    (image : Disk) (name : Bytes) (id : Option Bytes)
    → IsImage image → IsName name → IfSome id AreTwoBytes → IsSound image → view (named_disk image name id) ≡ named_view (view image) name id

-- deleting files leaves an image
abbrev pub ScratchedIsImage : Type 0
ScratchedIsImage = (image : Disk) (patterns : List Bytes) → IsImage image → IsSound image → IsImage (scratched_disk image patterns)

-- deleting files leaves a sound image sound
abbrev pub ScratchedIsSound : Type 0
ScratchedIsSound = (image : Disk) (patterns : List Bytes) → IsImage image → IsSound image → IsSound (scratched_disk image patterns)

-- deleting files changes the view as the definition says
abbrev pub ScratchedShows : Type 0
ScratchedShows =
    (image : Disk) (patterns : List Bytes) → IsImage image → IsSound image → view (scratched_disk image patterns) ≡ scratched_view (view image) patterns

-- the number of deleted files is that of the files of the directory's list that are closed, not
-- locked, and matched by at least one pattern
abbrev pub ScratchedAreCounted : Type 0
ScratchedAreCounted =
    (image : Disk) (patterns : List Bytes)
    → scratched_count image patterns
    ≡ length (filter (is_scratched_row patterns) (names_and_contents (view image)))

-- a validation leaves an image
abbrev pub ValidatedIsImage : Type 0
ValidatedIsImage = (image : Disk) → IsImage image → AllHold image 2 5 → IsImage (validated_disk image)

-- a validation makes a sound image of any whose directory, files and chains are in order, whatever
-- its map says
abbrev pub ValidatedIsSound : Type 0
ValidatedIsSound = (image : Disk) → IsImage image → AllHold image 2 5 → IsSound (validated_disk image)

-- a validation changes the view as the definition says
abbrev pub ValidatedShows : Type 0
ValidatedShows = (image : Disk) → IsImage image → AllHold image 2 5 → view (validated_disk image) ≡ validated_view (view image)

-- bringing back a deleted file leaves an image
abbrev pub UndeletedIsImage : Type 0
UndeletedIsImage =
    (image : Disk) (slot : ℕ) (kind : Kind)
    → IsImage image → IsSound image → IsWritable kind → CanComeBack image slot → IsImage (undeleted_disk image slot kind)

-- bringing back a deleted file leaves a sound image sound
abbrev pub UndeletedIsSound : Type 0
UndeletedIsSound =
    (image : Disk) (slot : ℕ) (kind : Kind)
    → IsImage image → IsSound image → IsWritable kind → CanComeBack image slot → IsSound (undeleted_disk image slot kind)

-- bringing back a deleted file changes the view as the definition says
abbrev pub UndeletedShows : Type 0
UndeletedShows =
    (image : Disk) (slot : ℕ) (kind : Kind)
    → IsImage image → IsSound image → IsWritable kind → CanComeBack image slot
    → view (undeleted_disk image slot kind) ≡ undeleted_view image (view image) slot kind
