-- The block allocation map: the counts and bits of free blocks, read and written.
use Rattle.std.specs.Prelude.{◌≡◌, ℕ, ◌+◌, ◌-◌, ◌*◌, ◌/◌, ◌%◌, ◌^◌, ◌<◌, ◌≤◌, ◌==◌, ◌&&◌, ◌||◌, nat_lt, nat_le, not, Bool, true, false, if◌then◌else◌, length, map, filter, sum_by, slice_index}
use Rattle.std.specs.List.{range_with_len}
use Rattle.std.specs.Int.{bit_at}
use Rattle.std.specs.FinSet as set
use Rattle.d64_image.specs.Disk.{Disk, Bytes, Blocks}
use Rattle.d64_image.specs.BlockSet.{BlockSet}
use Rattle.d64_image.specs.Block.{pair_at}
use Rattle.d64_image.specs.Image.{tracks_of, sector_at, with_sector}
use Rattle.d64_image.specs.declared.block.TheConstants.{BLOCKS}
use Rattle.d64_image.specs.declared.image.TheConstants.{BLOCK_BYTES}
use Rattle.d64_map.specs.Track.{has_sector, members_on}

-- the map's block: track 18, sector 0
abbrev pub map_block : ℕ
map_block = 357

-- where a track's four bytes begin in the map's block; for tracks 36 to 40, from $C0 on
unfoldable pub map_entry_place : ℕ → ℕ
map_entry_place track = if nat_lt track 36 then 4 * track else 4 * track + 0x30

-- a place belongs to a track's entry
abbrev pub IsOfTrack : ℕ → ℕ → Type 0
IsOfTrack track place = (map_entry_place track ≤ place) × (place < map_entry_place track + 4)

-- a track's count byte, the first of its four
abbrev pub count_of : Disk → ℕ → ℕ
count_of image track = slice_index (sector_at image map_block) (map_entry_place track)

-- a sector's bit in the map's block: after the count, eight sectors a byte
abbrev pub bit_in : Bytes → ℕ → ℕ → ℕ
bit_in bytes track sector = bit_at (slice_index bytes (map_entry_place track + 1 + sector / 8)) (sector % 8)

-- the same in an image
abbrev pub bit_of : Disk → ℕ → ℕ → ℕ
bit_of image track sector = bit_in (sector_at image map_block) track sector

-- whether the map marks a block free
unfoldable pub is_free : Disk → ℕ → Bool
is_free image block = bit_of image (pair_at block).0 (pair_at block).1 == 1

-- all blocks that a disk may have
unfoldable pub blocks : Blocks
blocks = range_with_len 0 BLOCKS

-- all blocks of a disk of n blocks
abbrev pub all_of : ℕ → BlockSet
all_of count = set.from_list (range_with_len 0 count)

-- the free blocks below a number
abbrev pub free_below : Disk → ℕ → BlockSet
free_below image n = set.from_list (filter (is_free image) (range_with_len 0 n))

-- the blocks that the map marks free
unfoldable pub free_blocks : Disk → BlockSet
free_blocks image = free_below image (length image)

-- the map marks no member of a set free from one block up to another
abbrev pub NoneIsFreeBetween : Disk → BlockSet → ℕ → ℕ → Type 0
NoneIsFreeBetween image members first end =
    (block : ℕ) → first ≤ block → block < end → set.contains members block ≡ true → set.contains (free_blocks image) block ≡ false

-- the free blocks that a directory shows: the count bytes of all tracks but 18
unfoldable pub blocks_free : Disk → ℕ
blocks_free image = sum_by (count_of image) (filter (λ track. not (track == 18)) (range_with_len 1 (tracks_of (length image))))

-- each track's count byte is the number of its blocks that the map marks free
pub record CountsFit (image : Disk) : Type 0 where
  pub each : (track : ℕ) → 1 ≤ track → track ≤ tracks_of (length image) → count_of image track ≡ members_on (free_blocks image) track

-- the byte of eight sectors: bit b is 1 if sector first + b is free
unfoldable pub bits_for : BlockSet → ℕ → ℕ → ℕ
bits_for free track first = sum_by (λ b. if has_sector free track (first + b) then 2 ^ b else 0) (range_with_len 0 8)

-- the track to whose entry a place belongs
unfoldable pub entry_track : ℕ → ℕ
entry_track place = if nat_lt place 0xC0 then place / 4 else (place - 0x30) / 4

-- the byte at a place in an entry, for these free blocks: the count, or bits
unfoldable pub map_byte : BlockSet → ℕ → ℕ
map_byte free place =
    if place % 4 == 0
    then members_on free (entry_track place)
    else bits_for free (entry_track place) (8 * (place % 4 - 1))

-- whether a place is in an entry: $04 to $8F, with 40 tracks also $C0 to $D3
abbrev pub is_entry : ℕ → ℕ → Bool
is_entry tracks place =
    (nat_le 0x04 place && nat_lt place 0x90) || ((tracks == 40) && (nat_le 0xC0 place && nat_lt place 0xD4))

-- the map's block with new entries for these free blocks, its other bytes unchanged
unfoldable pub map_for : ℕ → Bytes → BlockSet → Bytes
map_for tracks bytes free =
    map (λ place. if is_entry tracks place then map_byte free place else slice_index bytes place) (range_with_len 0 BLOCK_BYTES)

-- the image whose map marks exactly these free
unfoldable pub with_map : Disk → BlockSet → Disk
with_map image free = with_sector image map_block (map_for (tracks_of (length image)) (sector_at image map_block) free)
