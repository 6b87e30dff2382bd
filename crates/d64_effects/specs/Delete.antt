-- The image after files are deleted, byte for byte.
use Rattle.std.specs.Prelude.{ℕ, ◌&&◌, Bool, not, List, [], ◌∷◌, length}
use Rattle.std.specs.List.{list_any, flat_map}
use Rattle.d64_image.specs.Disk.{Disk, Bytes}
use Rattle.d64_map.specs.Map.{free_blocks, with_map}
use Rattle.d64_files.specs.Directory.{slots, slot_owns}
use Rattle.d64_files.specs.Pattern.{matches}
use Rattle.d64_files.specs.Slot.{is_used, is_closed, is_locked, name_of}
use Rattle.d64_effects.specs.Clear.{slots_where, with_cleared, with_freed}

-- whether patterns delete a file: it is closed, not locked, and one matches
abbrev pub is_deleted_by : List Bytes → Bool → Bool → Bytes → Bool
is_deleted_by patterns closed locked name = closed && (not locked && list_any (λ pattern. matches pattern name) patterns)

-- whether they delete a slot's file
abbrev pub is_scratched_slot : List Bytes → Bytes → Bool
is_scratched_slot patterns cell = is_used cell && is_deleted_by patterns (is_closed cell) (is_locked cell) (name_of cell)

-- the numbers of those slots, each once
abbrev pub scratched_slots : Disk → List Bytes → List ℕ
scratched_slots image patterns = slots_where (is_scratched_slot patterns) (slots image)

abbrev pub scratched_count : Disk → List Bytes → ℕ
scratched_count image patterns = length (scratched_slots image patterns)

-- the image with these slots unused and their blocks free; for no slots nothing is written
abbrev pub without_files : Disk → List ℕ → Disk
without_files image [] = image
without_files image (slot ∷ others) =
    with_map (with_cleared image (slot ∷ others)) (with_freed (free_blocks image) (flat_map (slot_owns image) (slot ∷ others)))

unfoldable pub scratched_disk : Disk → List Bytes → Disk
scratched_disk image patterns = without_files image (scratched_slots image patterns)
