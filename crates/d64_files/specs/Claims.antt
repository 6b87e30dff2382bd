-- The claims of blocks.
use Rattle.std.specs.Prelude.{◌||◌, nat_eq, Bool, false, [], ◌∷◌}
use Rattle.std.specs.List.{list_any}
use Rattle.std.specs.FinSet as set
use Rattle.d64_image.specs.Disk.{Blocks}
use Rattle.d64_files.specs.declared.claims.Claims.{Claims}

-- whether a block comes twice
abbrev pub has_repeats : Blocks → Bool
has_repeats [] = false
has_repeats (block ∷ blocks) = list_any (nat_eq block) blocks || has_repeats blocks

-- the claims after these blocks were claimed
unfoldable pub claims_of : Blocks → Claims
claims_of blocks = record { blocks = set.from_list blocks; crossed = has_repeats blocks }
