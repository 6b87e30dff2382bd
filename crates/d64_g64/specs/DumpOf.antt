-- The dump that a file's bytes are: a D64 of one of four lengths, or a G64.
use Rattle.std.specs.Prelude.{ℕ, ◌/◌, ◌&&◌, if◌then◌else◌, take, drop, length, option_map, Option, Some, None}
use Rattle.std.specs.Option.{option_or}
use Rattle.std.specs.Simd.{first_chunks}
use Rattle.d64_image.specs.Disk.{Bytes}
use Rattle.d64_survey.specs.Dump.{DumpView, codes_in, image_bytes}
use Rattle.d64_g64.specs.File.{begins_as_g64, is_g64}
use Rattle.d64_g64.specs.Dump.{g64_dump}

-- the dump whose image is the first count bytes, in blocks of 256, and whose read codes are the
-- other bytes, if there are any
abbrev pub dump_with : Bytes → ℕ → DumpView
dump_with bytes count = record { image = first_chunks 256 (count / 256) (take count bytes); codes = codes_in (drop count bytes) }

-- the dump that the bytes of a D64 are; None if no dump has that length
unfoldable pub d64_dump : Bytes → Option DumpView
d64_dump bytes = option_map (dump_with bytes) (image_bytes (length bytes))

-- the dump that the bytes of a G64 are; None if they are no G64, or a bad one
unfoldable pub dump_of_g64 : Bytes → Option DumpView
dump_of_g64 bytes = if begins_as_g64 bytes && is_g64 bytes then Some (g64_dump bytes) else None

-- the dump that bytes are, as a D64 or else as a G64; None if they are neither
unfoldable pub dump_of : Bytes → Option DumpView
dump_of bytes = option_or (d64_dump bytes) (dump_of_g64 bytes)
