-- What a session holds of a history: the present image, and for each record a patch that leads away
-- from it.
use Rattle.std.specs.Prelude.{◌≡◌, ℕ, List, [], ◌∷◌, ◌++◌, reverse, take, drop}
use Rattle.d64_image.specs.Disk.{Disk}
use Rattle.d64_image.specs.Patch.{Kept, restored_image, changed_blocks}

-- the images one after another as the patches are put back in turn
unfoldable pub images_along : Disk → List Kept → List Disk
images_along image [] = []
images_along image (patch ∷ patches) = restored_image image patch ∷ images_along (restored_image image patch) patches

-- each patch is exactly the difference to the image that comes next
unfoldable pub LeadAlong : Disk → List Kept → Type 0
LeadAlong image [] = Unit {0}
LeadAlong image (patch ∷ patches) = (patch ≡ changed_blocks (restored_image image patch) image) × LeadAlong (restored_image image patch) patches

-- the images of a history, by its records and the present image: back along the records that are
-- done, and on along the undone ones
unfoldable pub images_of : List Kept → Disk → ℕ → List Disk
images_of records image done = reverse (images_along image (reverse (take done records))) ++ image ∷ images_along image (drop done records)

-- each record is exactly the difference to the next image, both ways
unfoldable pub AreRecords : List Kept → Disk → ℕ → Type 0
AreRecords records image done = LeadAlong image (reverse (take done records)) × LeadAlong image (drop done records)
