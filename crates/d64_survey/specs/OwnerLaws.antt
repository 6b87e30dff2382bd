-- What follows from the definition of owners.
use Rattle.std.specs.Prelude.{◌≡◌, ◌≢◌, [], All}
use Rattle.d64_image.specs.Disk.{Disk}
use Rattle.d64_files.specs.Directory.{directory, slots, owned_blocks}
use Rattle.d64_files.specs.Ownership.{HasItsChains}
use Rattle.d64_survey.specs.Owners.{directory_way, way_slots, blocks_owned}

-- if the directory and the files have their chains, the directory's way is the directory, the slots
-- of an image are those of the directory, and the blocks with an owner are the owned blocks
abbrev pub OwnersAreThoseOfFiles : Type 0
OwnersAreThoseOfFiles =
    (image : Disk)
    → directory image ≢ []
    → All (HasItsChains image) (slots image)
    → (directory image ≡ (directory_way image).0) × (slots image ≡ way_slots image) × (blocks_owned image ≡ owned_blocks image)
