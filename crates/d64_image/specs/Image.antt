-- Images: lists of blocks of 256 bytes, of 35 or of 40 tracks, and how two of them differ.
use Rattle.std.specs.Prelude.{◌≡◌, ℕ, ◌≤◌, ◌==◌, ◌||◌, ◌⊎◌, not, Bool, if◌then◌else◌, Option, Some, None, [], length, filter, All, slice_index_or, slice_set, nat_eq}
use Rattle.std.specs.List.{flat_map, range_with_len}
use Rattle.std.specs.Cmp.Lexicographic.{pointwise}
use Rattle.d64_image.specs.Disk.{Disk, Bytes, Blocks, AreBytes}
use Rattle.d64_image.specs.declared.image.TheConstants.{BLOCK_BYTES}

-- a block's content is 256 bytes
abbrev pub IsBlock : Bytes → Type 0
IsBlock bytes = (length bytes ≡ BLOCK_BYTES) × AreBytes bytes

-- how many blocks an image has: 683 of 35 tracks or 768 of 40
abbrev pub IsSize : ℕ → Type 0
IsSize count = (count ≡ 683) ⊎ (count ≡ 768)

-- how many tracks n blocks have
abbrev pub tracks_of : ℕ → ℕ
tracks_of count = if count == 768 then 40 else 35

-- the image has the track: tracks count from 1
abbrev pub HasTrack : Disk → ℕ → Type 0
HasTrack image track = (1 ≤ track) × (track ≤ tracks_of (length image))

-- how many blocks an image has: those of 40 tracks or those of 35
abbrev pub count_of_tracks : ℕ → ℕ
count_of_tracks tracks = if tracks == 40 then 768 else 683

-- how many blocks an image of n tracks has; None if no image has n tracks
abbrev pub blocks_of : ℕ → Option ℕ
blocks_of tracks = if tracks == 35 then Some 683 else (if tracks == 40 then Some 768 else None)

-- whether n bytes make an image: 683 blocks of 256 bytes, or 768
abbrev pub is_image_length : ℕ → Bool
is_image_length len = (len == 174848) || (len == 196608)

-- an image is a list of blocks, of either size
abbrev pub IsImage : Disk → Type 0
IsImage image = IsSize (length image) × All IsBlock image

-- a block's bytes
abbrev pub sector_at : Disk → ℕ → Bytes
sector_at image block = slice_index_or image block []

-- the bytes of an image, block after block
abbrev pub bytes_of : Disk → Bytes
bytes_of image = flat_map (λ sector. sector) image

-- the image with one block replaced
abbrev pub with_sector : Disk → ℕ → Bytes → Disk
with_sector image block bytes = slice_set image block bytes

-- the blocks in which two images differ, ascending
abbrev pub differences : Disk → Disk → Blocks
differences image other =
    filter (λ block. not (pointwise nat_eq (sector_at image block) (sector_at other block))) (range_with_len 0 (length image))
