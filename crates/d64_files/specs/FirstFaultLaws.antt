-- The tests of the conditions of a sound image and the relations agree.
use Rattle.std.specs.Prelude.{◌≡◌, ◌↔◌, ℕ, List, Some, None}
use Rattle.d64_image.specs.Disk.{Disk}
use Rattle.d64_files.specs.Directory.{AllHold, IsFirstFault}
use Rattle.d64_files.specs.FirstFault.{first_fault}
use Rattle.d64_files.specs.declared.dir_fault.DirFault.{DirFault}

-- the tests of conditions with these numbers find no fault exactly if all hold, and otherwise find
-- the first that fails
abbrev pub ReportsFirst : List DirFault → ℕ → ℕ → Type 0
ReportsFirst conditions first last =
    (image : Disk)
    → ((first_fault image conditions ≡ None) ↔ AllHold image first last)
    × ((fault : DirFault) → (first_fault image conditions ≡ Some fault) ↔ IsFirstFault image first last fault)
