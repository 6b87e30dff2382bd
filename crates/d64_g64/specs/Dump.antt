-- The dump that a G64 is read as.
use Rattle.std.specs.Prelude.{ℕ, ◌*◌, ◌==◌, nat_lt, if◌then◌else◌, Option, Some, map, drop, count_by}
use Rattle.std.specs.List.{range_with_len}
use Rattle.d64_image.specs.Disk.{Disk, Bytes}
use Rattle.d64_image.specs.Block.{pair_at}
use Rattle.d64_survey.specs.Dump.{DumpView}
use Rattle.d64_g64.specs.Headers.{track_disk_id}
use Rattle.d64_g64.specs.Blocks.{block_code_of, block_bytes_of}
use Rattle.d64_g64.specs.File.{track_of}

-- the disk's id
abbrev pub id_in : Bytes → Option (ℕ × ℕ)
id_in file = track_disk_id (track_of file 18)

-- the code of a block and its bytes, by the track that has it
unfoldable pub block_code : Bytes → ℕ → ℕ
block_code file block = block_code_of (id_in file) (track_of file (pair_at block).0) (pair_at block).0 (pair_at block).1

unfoldable pub block_bytes : Bytes → ℕ → Bytes
block_bytes file block = block_bytes_of (id_in file) (track_of file (pair_at block).0) (pair_at block).0 (pair_at block).1

-- the codes, and the bytes, of the first count blocks
unfoldable pub first_codes : Bytes → ℕ → Bytes
first_codes file count = map (block_code file) (range_with_len 0 count)

unfoldable pub first_blocks : Bytes → ℕ → Disk
first_blocks file count = map (block_bytes file) (range_with_len 0 count)

-- how many blocks the dump has, by their codes: those of 40 tracks if more than half of the 85
-- blocks of tracks 36 to 40 have code 1, else those of 35
unfoldable pub kept_count : Bytes → ℕ
kept_count codes = if nat_lt 85 (2 * count_by (λ code. code == 1) (drop 683 codes)) then 768 else 683

abbrev pub dump_block_count : Bytes → ℕ
dump_block_count file = kept_count (first_codes file 768)

-- the dump of a G64: its blocks and their codes
unfoldable pub g64_dump : Bytes → DumpView
g64_dump file = record { image = first_blocks file (dump_block_count file); codes = Some (first_codes file (dump_block_count file)) }
