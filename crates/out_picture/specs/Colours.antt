-- The colours of blocks.
use Rattle.std.specs.Prelude.{ℕ, ◌%◌, if◌then◌else◌, List, ◌++◌, codes, decimal}
use Rattle.std.specs.List.{slice_get}
use Rattle.std.specs.Option.{option_map_or}
use Rattle.std.specs.FinSet as set
use Rattle.d64_image.specs.Disk.{Disk}
use Rattle.d64_map.specs.Map.{free_blocks}
use Rattle.d64_survey.specs.Owners.{owners_of}
use Rattle.d64_survey.specs.declared.owner.Owner.{Owner}
use Rattle.d64_survey.specs.declared.owner.Owner.TheVariants as owners
use Rattle.out_picture.specs.declared.colour.Colour.{Colour}
use Rattle.out_picture.specs.declared.colour.Colour.TheVariants.{Free, Unowned, System, File}

-- the colour of the file of a slot: one of sixteen, which repeat
abbrev pub colour_of_slot : ℕ → Colour
colour_of_slot slot = File (slot % 16)

-- the colour of an owner's blocks
abbrev pub colour_of_owner : Owner → Colour
colour_of_owner owners.Map = System
colour_of_owner owners.Directory = System
colour_of_owner (owners.File slot part) = colour_of_slot slot

-- the colour of a block without owners
abbrev pub colour_of_unowned : Disk → ℕ → Colour
colour_of_unowned image block = if set.contains (free_blocks image) block then Free else Unowned

-- the colour of a block: that of its first owner, if it has one
unfoldable pub colour_of : Disk → ℕ → Colour
colour_of image block = option_map_or colour_of_owner (slice_get (owners_of image block) 0) (colour_of_unowned image block)

-- the class of the colour in the style
unfoldable pub class_of : Colour → List ℕ
class_of Free = codes "free"
class_of Unowned = codes "unowned"
class_of System = codes "system"
class_of (File number) = codes "c" ++ decimal number
