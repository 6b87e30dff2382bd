-- The effect of deleting a file and bringing it back.
use Rattle.std.specs.Prelude.{◌≡◌, ℕ, List, [], ◌∷◌}
use Rattle.d64_image.specs.Disk.{Disk, Bytes}
use Rattle.d64_image.specs.Image.{IsImage}
use Rattle.d64_map.specs.Map.{free_blocks, with_map}
use Rattle.d64_files.specs.Clearing.{closed_type}
use Rattle.d64_files.specs.Slot.{type_byte}
use Rattle.d64_files.specs.declared.kind.Kind.{Kind}
use Rattle.d64_effects.specs.Delete.{scratched_slots, scratched_disk}
use Rattle.d64_effects.specs.Laws.{IsWritable}
use Rattle.d64_effects.specs.Undelete.{CanComeBack, cell_at, undeleted_disk}
use Rattle.d64_effects.specs.View.{IsSound}

-- if one file was deleted, a closed one that isn't locked, it can come back, and with its kind the
-- disk is the one from before, with its map written anew
abbrev pub DeletedFileComesBack : Type 0
DeletedFileComesBack =
    (image : Disk) (patterns : List Bytes) (slot : ℕ) (kind : Kind)
    → IsImage image → IsSound image → IsWritable kind
    → type_byte (cell_at image slot) ≡ closed_type kind → scratched_slots image patterns ≡ slot ∷ []
    → CanComeBack (scratched_disk image patterns) slot
    × (undeleted_disk (scratched_disk image patterns) slot kind ≡ with_map image (free_blocks image))
