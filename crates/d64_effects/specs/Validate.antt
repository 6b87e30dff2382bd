-- The image after a validation, byte for byte.
use Rattle.std.specs.Prelude.{ℕ, ◌&&◌, Bool, not, List, length}
use Rattle.d64_image.specs.Disk.{Disk, Bytes, Blocks}
use Rattle.d64_image.specs.BlockSet.{BlockSet}
use Rattle.d64_map.specs.Map.{all_of, with_map}
use Rattle.d64_files.specs.Directory.{slots, owned_blocks}
use Rattle.d64_files.specs.Slot.{is_used, is_closed}
use Rattle.d64_effects.specs.Clear.{slots_where, with_cleared}
use Rattle.d64_effects.specs.Write.{blocks_without}

abbrev pub is_unclosed : Bytes → Bool
is_unclosed cell = is_used cell && not (is_closed cell)

abbrev pub unclosed_slots : Disk → List ℕ
unclosed_slots image = slots_where is_unclosed (slots image)

abbrev pub all_but : ℕ → Blocks → BlockSet
all_but count owned = blocks_without (all_of count) owned

-- the image without unclosed files, and with exactly the unowned blocks free
unfoldable pub validated_disk : Disk → Disk
validated_disk image = with_map (with_cleared image (unclosed_slots image)) (all_but (length image) (owned_blocks image))
