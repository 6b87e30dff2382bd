use Rattle.std.proofs.Common.{◌≡◌, ◌+◌, ◌++◌, length}
use Rattle.std.specs.List.{range_with_len}
use Rattle.d64_image.specs.Block.{first_block}
use Rattle.d64_image.specs.Image.{bytes_of as image_bytes}
use Rattle.d64_g64.specs.Dump.{first_codes, first_blocks}
use Rattle.d64_g64.proofs.dump.read_tracks.Given as goal

abbrev pub invariant-loop-track : goal.invariant-loop-track
invariant-loop-track l = record {
  split : range_with_len 1 40 ≡ l.yielded ++ l.track-iterator;
  codes : l.blocks.codes.items ≡ first_codes l.file (first_block (length l.yielded + 1));
  bytes : l.blocks.bytes.items ≡ image_bytes (first_blocks l.file (first_block (length l.yielded + 1)));
}
