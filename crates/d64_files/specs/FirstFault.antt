-- The first condition of a sound image that fails, as tests.
use Rattle.std.specs.Prelude.{nat_eq, not, Bool, true, false, List, [], ◌∷◌, length, find, Option, Some, None, Result, Ok, Err}
use Rattle.std.specs.List.{range_with_len, list_any, list_all}
use Rattle.std.specs.FinSet as set
use Rattle.d64_image.specs.Disk.{Disk, Blocks}
use Rattle.d64_image.specs.Image.{tracks_of}
use Rattle.d64_map.specs.Map.{free_blocks, count_of}
use Rattle.d64_map.specs.Track.{members_on}
use Rattle.d64_files.specs.Claims.{has_repeats}
use Rattle.d64_files.specs.Directory.{directory, slots, owned_blocks}
use Rattle.d64_files.specs.Ownership.{chain_at, roots}
use Rattle.d64_files.specs.Slot.{has_kind}
use Rattle.d64_files.specs.declared.dir_fault.DirFault.{DirFault}
use Rattle.d64_files.specs.declared.dir_fault.DirFault.TheVariants.{WrongCounts, NoDirectory, UnknownKind, NoChain, CrossLinked, MarkedFree}

abbrev pub is_nil : Blocks → Bool
is_nil [] = true
is_nil (block ∷ blocks) = false

-- whether an image has this fault
unfoldable pub fails : Disk → DirFault → Bool
fails image WrongCounts = not (list_all (λ track. nat_eq (count_of image track) (members_on (free_blocks image) track)) (range_with_len 1 (tracks_of (length image))))
fails image NoDirectory = is_nil (directory image)
fails image UnknownKind = not (list_all has_kind (slots image))
fails image NoChain = list_any (λ cell. list_any (λ root. is_nil (chain_at image root)) (roots cell)) (slots image)
fails image CrossLinked = has_repeats (owned_blocks image)
fails image MarkedFree = list_any (set.contains (free_blocks image)) (owned_blocks image)

-- the conditions of a directory that can be read, in order
abbrev pub reading_conditions : List DirFault
reading_conditions = NoDirectory ∷ UnknownKind ∷ []

-- the conditions of the owned blocks, in order
abbrev pub owning_conditions : List DirFault
owning_conditions = NoDirectory ∷ UnknownKind ∷ NoChain ∷ CrossLinked ∷ []

-- the conditions of a sound image, in order
abbrev pub sound_conditions : List DirFault
sound_conditions = WrongCounts ∷ NoDirectory ∷ UnknownKind ∷ NoChain ∷ CrossLinked ∷ MarkedFree ∷ []

-- the fault of a result, if it is one
abbrev pub err_of : {A : Type 0} → Result A DirFault → Option DirFault
err_of (Ok value) = None
err_of (Err fault) = Some fault

-- the first of these conditions that an image fails
unfoldable pub first_fault : Disk → List DirFault → Option DirFault
first_fault image conditions = find (fails image) conditions
