-- What stays the same while slots of the directory are cleared one after another.
use Rattle.std.specs.Prelude.{◌≡◌, ℕ, ◌<◌, if◌then◌else◌, List, [], ◌∷◌, ◌++◌, length, All, Bool}
use Rattle.d64_image.specs.Disk.{Disk, Bytes}
use Rattle.d64_image.specs.Image.{IsImage}
use Rattle.d64_files.specs.Directory.{directory, slots}
use Rattle.d64_effects.specs.Clear.{slots_where, with_cleared}

-- the numbers are those of slots that an image has
abbrev pub AreSlotsOf : Disk → List ℕ → Type 0
AreSlotsOf image numbers = All (λ number. number < length (slots image)) numbers

-- clearing slots leaves an image
abbrev pub ClearingKeepsTheImage : Type 0
ClearingKeepsTheImage = (image : Disk) (numbers : List ℕ) → IsImage image → AreSlotsOf image numbers → IsImage (with_cleared image numbers)

-- clearing slots keeps the directory in the same blocks
abbrev pub ClearingKeepsTheDirectory : Type 0
ClearingKeepsTheDirectory =
    (image : Disk) (numbers : List ℕ) → IsImage image → AreSlotsOf image numbers → directory (with_cleared image numbers) ≡ directory image

-- clearing slots keeps the number of slots
abbrev pub ClearingKeepsTheNumberOfSlots : Type 0
ClearingKeepsTheNumberOfSlots =
    (image : Disk) (numbers : List ℕ)
    → IsImage image → AreSlotsOf image numbers → length (slots (with_cleared image numbers)) ≡ length (slots image)

-- one more slot is counted exactly if it passes the test
abbrev pub OneMoreSlotCounts : Type 0
OneMoreSlotCounts =
    (test : Bytes → Bool) (cells : List Bytes) (cell : Bytes)
    → slots_where test (cells ++ (cell ∷ [])) ≡ slots_where test cells ++ (if test cell then length cells ∷ [] else [])

-- the slots that pass a test are slots of the image
abbrev pub SlotsWhereAreSlots : Type 0
SlotsWhereAreSlots = (test : Bytes → Bool) (cells : List Bytes) → All (λ number. number < length cells) (slots_where test cells)
