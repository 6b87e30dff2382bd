-- Regions of a disk: the blocks that have the same first owner, or no owner.
use Rattle.std.specs.Prelude.{ℕ, ◌==◌, not, Bool, false, Option}
use Rattle.std.specs.Option.{option_map_or}
use Rattle.d64_survey.specs.declared.owner.Owner.{Owner}
use Rattle.d64_survey.specs.declared.owner.Owner.TheVariants as owners
use Rattle.out_picture.specs.States.{is_system}
use Rattle.out_picture.specs.declared.colour.Colour.{Colour}
use Rattle.out_picture.specs.declared.colour.Colour.TheVariants as colours
use Rattle.out_picture.specs.Colours.{colour_of_slot}
use Rattle.out_picture.specs.declared.region.Region.{Region}
use Rattle.out_picture.specs.declared.region.Region.TheVariants.{Free, Unowned, System, File}

-- the colour of a region
abbrev pub colour_of_region : Region → Colour
colour_of_region Free = colours.Free
colour_of_region Unowned = colours.Unowned
colour_of_region System = colours.System
colour_of_region (File slot) = colour_of_slot slot

-- a block without owners is in a region, by whether it is marked free
abbrev pub is_bare_in : Region → Bool → Bool
is_bare_in Free free = free
is_bare_in Unowned free = not free
is_bare_in System free = false
is_bare_in (File slot) free = false

-- an owner is the file of a slot
abbrev pub is_file_of : ℕ → Owner → Bool
is_file_of slot owners.Map = false
is_file_of slot owners.Directory = false
is_file_of slot (owners.File other part) = other == slot

-- a block with this first owner is in a region
abbrev pub is_owned_in : Region → Owner → Bool
is_owned_in Free owner = false
is_owned_in Unowned owner = false
is_owned_in System owner = is_system owner
is_owned_in (File slot) owner = is_file_of slot owner

-- a block with this first owner, or with none, is in a region
abbrev pub is_in : Region → Option Owner → Bool → Bool
is_in region owner free = option_map_or (is_owned_in region) owner (is_bare_in region free)
