-- What follows from the definitions of a G64's dump.
use Rattle.std.specs.Prelude.{◌≡◌, ◌↔◌, ℕ, ◌&&◌, not, Bool, true, is_some, Some, find}
use Rattle.d64_image.specs.Disk.{Bytes}
use Rattle.d64_image.specs.Block.{pair_at}
use Rattle.d64_survey.specs.Dump.{IsDump}
use Rattle.d64_g64.specs.Starts.{start_pairs}
use Rattle.d64_g64.specs.Headers.{names_block, is_good_header, has_other_id}
use Rattle.d64_g64.specs.Blocks.{is_data, is_whole_block, data_bytes}
use Rattle.d64_g64.specs.File.{track_of}
use Rattle.d64_g64.specs.Dump.{id_in, block_code, block_bytes, g64_dump}

-- any bytes are read as a dump: an image with a code for each of its blocks
abbrev pub AnyBytesMakeADump : Type 0
AnyBytesMakeADump = (file : Bytes) → IsDump (g64_dump file)

-- whether a pair is a good header of the block, with the disk's id if there is one, followed by a
-- data block whose checksum is right
abbrev pub is_sound_block : Bytes → Bytes → ℕ → ℕ × ℕ → Bool
is_sound_block file track block pair =
    (names_block track (pair_at block).0 (pair_at block).1 pair && is_good_header track pair && not (has_other_id (id_in file) track pair)) && (is_data track pair.1 && is_whole_block track pair.1)

-- a block has code 1 exactly if its track has such a header
abbrev pub CodeOneIsASoundBlock : Type 0
CodeOneIsASoundBlock =
    (file : Bytes) (block : ℕ)
    → (block_code file block ≡ 1) ↔ (is_some (find (is_sound_block file (track_of file (pair_at block).0) block) (start_pairs (track_of file (pair_at block).0))) ≡ true)

-- the bytes of such a block are those behind the first such header
abbrev pub SoundBytesAreTheFirst : Type 0
SoundBytesAreTheFirst =
    (file : Bytes) (block : ℕ) (pair : ℕ × ℕ)
    → find (is_sound_block file (track_of file (pair_at block).0) block) (start_pairs (track_of file (pair_at block).0)) ≡ Some pair
    → block_bytes file block ≡ data_bytes (track_of file (pair_at block).0) pair.1
