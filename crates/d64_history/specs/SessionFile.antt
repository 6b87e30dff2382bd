-- The bytes of a session file.
use Rattle.std.specs.Prelude.{◌≡◌, ℕ, ◌-◌, ◌≤◌, ◌^◌, All, List, [], ◌∷◌, ◌++◌, length, map}
use Rattle.std.specs.Int.{w16, w64, to_le_bytes}
use Rattle.std.specs.List.{flat_map, range_with_len}
use Rattle.d64_image.specs.Disk.{Disk, Bytes}
use Rattle.d64_image.specs.Image.{IsImage, tracks_of, bytes_of}
use Rattle.d64_image.specs.Patch.{Kept}
use Rattle.d64_history.specs.History.{History, IsHistory, present_image, record_blocks}

-- each session file begins with D64S
abbrev pub magic : Bytes
magic = 0x44 ∷ 0x36 ∷ 0x34 ∷ 0x53 ∷ []

-- a block of a record: index and bytes
abbrev pub block_file : ℕ × Bytes → Bytes
block_file entry = to_le_bytes w16 entry.0 ++ entry.1

-- a record: how many blocks, and each of them
abbrev pub record_file : Kept → Bytes
record_file patch = to_le_bytes w16 (length patch) ++ flat_map block_file patch

-- the file of a present image and all records, oldest first, of which n are done
unfoldable pub file_with : Disk → ℕ → List Kept → Bytes
file_with image done records =
    magic ++ tracks_of (length image) ∷ bytes_of image ++ to_le_bytes w64 done ++ to_le_bytes w64 (length records) ++ flat_map record_file records

-- the records of a history, oldest first
unfoldable pub records_of : History → List Kept
records_of history = map (record_blocks history) (range_with_len 0 (length history.images - 1))

-- the file of a history
abbrev pub file_of : History → Bytes
file_of history = file_with (present_image history) history.cursor (records_of history)

-- a history that a session can hold: the cursor is at one of the images, which all have the same
-- number of tracks, and a number of 64 bits counts the records
pub record IsSession (history : History) : Type 0 where
  pub cursor : IsHistory history
  pub images : All IsImage history.images
  pub kind : All (λ image. length image ≡ length (present_image history)) history.images
  pub count : length history.images ≤ 2 ^ 64
