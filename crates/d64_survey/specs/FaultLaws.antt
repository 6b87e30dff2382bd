-- What follows from the definition of faults.
use Rattle.std.specs.Prelude.{◌≡◌, ◌↔◌, [], length, option_map, All}
use Rattle.std.specs.List.{slice_get}
use Rattle.std.specs.Option.{option_map_or}
use Rattle.d64_image.specs.Disk.{Disk, Bytes}
use Rattle.d64_image.specs.Image.{IsSize}
use Rattle.d64_files.specs.Directory.{AllHold, condition_number, directory, owned_blocks}
use Rattle.d64_files.specs.Ownership.{chain_at, HasItsChains}
use Rattle.d64_files.specs.FirstFault.{first_fault, sound_conditions}
use Rattle.d64_survey.specs.Faults.{faults, number}
use Rattle.d64_survey.specs.Owners.{pair_of, blocks_from, directory_way, way_slots, blocks_owned}
use Rattle.d64_survey.specs.declared.owner.Part.{Part}

-- an image has no fault exactly if it meets all six conditions
abbrev pub NoFaultWhereSound : Type 0
NoFaultWhereSound = (image : Disk) → IsSize (length image) → (faults image ≡ []) ↔ AllHold image 1 6

-- the first fault's number is that of the first condition that the image fails
abbrev pub FirstFaultIsTheLeast : Type 0
FirstFaultIsTheLeast =
    (image : Disk) → IsSize (length image) → option_map number (slice_get (faults image) 0) ≡ option_map condition_number (first_fault image sound_conditions)

-- the blocks of each way of a slot's file are the chain from its pair
abbrev pub WaysAreItsChains : Disk → Bytes → Type 0
WaysAreItsChains image cell = (part : Part) → blocks_from image (pair_of part cell) ≡ option_map_or (chain_at image) (pair_of part cell) []

-- if there is no fault, the directory's way is the directory, the blocks with an owner are the
-- owned blocks, and each slot has its chains, which are its ways
abbrev pub WaysAreChainsWhereSound : Type 0
WaysAreChainsWhereSound =
    (image : Disk)
    → IsSize (length image)
    → faults image ≡ []
    → (directory image ≡ (directory_way image).0)
    × (blocks_owned image ≡ owned_blocks image)
    × All (HasItsChains image) (way_slots image)
    × All (WaysAreItsChains image) (way_slots image)
