-- The files of a disk that the first argument of a line may mean.
use Rattle.std.specs.Prelude.{◌≡◌, ◌⊎◌, ℕ, ◌-◌, ◌&&◌, nat_le, Bool, not, if◌then◌else◌, List, map, find, Option, None, option_map}
use Rattle.std.specs.List.{count_by}
use Rattle.std.specs.Str.{bytes_eq}
use Rattle.d64_image.specs.Disk.{Bytes, Disk}
use Rattle.d64_files.specs.Directory.{entries, is_named}
use Rattle.d64_files.specs.Pattern.{is_pattern}
use Rattle.d64_files.specs.Slot.{EntryView, is_used, name_of}
use Rattle.d64_scratched.specs.Scratched.{is_scratched}
use Rattle.d64_survey.specs.Owners.{way_slots}
use Rattle.petscii.specs.Spelling.{spelling}
use Rattle.script_lines.specs.Act.{IsSpelled}
use Rattle.script_advice.specs.declared.found.Found.{Found}

-- the slots of the directory's way, also if it does not end as a chain
abbrev pub listed_slots : Disk → List EntryView
listed_slots image = entries image (way_slots image)

-- the first file whose name a pattern matches
abbrev pub first_file : Disk → Bytes → Option EntryView
first_file image pattern = find (λ (entry : EntryView). is_named pattern entry.bytes) (listed_slots image)

-- the small letter for a capital of PETSCII, of which there are two sets; any other byte as it is
abbrev pub small_letter : ℕ → ℕ
small_letter byte =
    if nat_le 0xc1 byte && nat_le byte 0xda then byte - 0x80
    else if nat_le 0x61 byte && nat_le byte 0x7a then byte - 0x20
    else byte

-- two names are the same but for capitals and small letters
abbrev pub has_same_letters : Bytes → Bytes → Bool
has_same_letters name other = bytes_eq (map small_letter name) (map small_letter other)

-- a name is another one in other letters
abbrev pub is_in_other_letters : Bytes → Bytes → Bool
is_in_other_letters name other = not (bytes_eq name other) && has_same_letters name other

-- the first file whose name is this one in other letters
abbrev pub respelled_file : Disk → Bytes → Option EntryView
respelled_file image name = find (λ (entry : EntryView). is_used entry.bytes && is_in_other_letters (name_of entry.bytes) name) (listed_slots image)

-- an entry is that of a deleted file that had this name
abbrev pub is_deleted_as : Bytes → EntryView → Bool
is_deleted_as name entry = is_scratched entry.bytes && bytes_eq (name_of entry.bytes) name

-- the first deleted file that had this name
abbrev pub deleted_file : Disk → Bytes → Option EntryView
deleted_file image name = find (is_deleted_as name) (listed_slots image)

-- the files that a pattern may mean
abbrev pub found_by : Disk → Bytes → Found
found_by image pattern = record { file = first_file image pattern; respelled = respelled_file image pattern; deleted = deleted_file image pattern }

-- no file
abbrev pub no_file : Found
no_file = record { file = None; respelled = None; deleted = None }

-- the files that an argument may mean: those that its pattern may mean, and none if it is none
abbrev pub IsFound : Disk → Bytes → Found → Type 0
IsFound image argument found =
    ((pattern : Bytes) × IsSpelled is_pattern argument pattern × (found ≡ found_by image pattern))
    ⊎ (((pattern : Bytes) → IsSpelled is_pattern argument pattern → ⊥) × (found ≡ no_file))

-- the name, in text form, of the first file that an argument finds
abbrev pub IsDefaultName : Disk → Bytes → Option Bytes → Type 0
IsDefaultName image argument name = (found : Found) × IsFound image argument found × (name ≡ option_map (λ (entry : EntryView). spelling (name_of entry.bytes)) found.file)

-- how many files a disk lists
abbrev pub file_count : Disk → ℕ
file_count image = count_by (λ (entry : EntryView). is_used entry.bytes) (listed_slots image)
