-- The conditions of a sound image that fail for a slot.
use Rattle.std.specs.Prelude.{ℕ, ◌==◌, ◌&&◌, Bool, false, List, [], ◌∷◌, filter}
use Rattle.std.specs.List.{list_any}
use Rattle.d64_image.specs.Disk.{Disk}
use Rattle.d64_survey.specs.Owners.{owners_of}
use Rattle.d64_survey.specs.Faults.{faults, number}
use Rattle.d64_survey.specs.declared.owner.Owner.{Owner}
use Rattle.d64_survey.specs.declared.owner.Owner.TheVariants.{Map, Directory, File}
use Rattle.d64_survey.specs.declared.fault.Fault.{Fault}
use Rattle.d64_survey.specs.declared.fault.Fault.TheVariants.{WrongCount, BrokenDirectory, UnknownKind, BrokenFile, Shared, MarkedFree}

-- whether an owner is a part of the file of a slot
abbrev pub is_part_of : ℕ → Owner → Bool
is_part_of slot Map = false
is_part_of slot Directory = false
is_part_of slot (File other part) = slot == other

-- whether the file of a slot is one of the owners of a block, however many there are
abbrev pub owns : Disk → ℕ → ℕ → Bool
owns image slot block = list_any (is_part_of slot) (owners_of image block)

-- whether a fault names a slot: it is a fault of the slot, of a part of its file, or of a block
-- that its file owns
abbrev pub names : Disk → ℕ → Fault → Bool
names image slot (WrongCount track count marked) = false
names image slot (BrokenDirectory at end) = false
names image slot (UnknownKind other type) = slot == other
names image slot (BrokenFile other part at end) = slot == other
names image slot (Shared block) = owns image slot block
names image slot (MarkedFree block) = owns image slot block

-- whether one of the faults with this number names the slot
abbrev pub is_condition_of : Disk → ℕ → ℕ → Bool
is_condition_of image slot condition = list_any (λ fault. number fault == condition && names image slot fault) (faults image)

-- the numbers of the faults that name a slot, each once, ascending; those with the numbers 1 and 2
-- name no slot
unfoldable pub conditions : Disk → ℕ → List ℕ
conditions image slot = filter (is_condition_of image slot) (3 ∷ 4 ∷ 5 ∷ 6 ∷ [])
