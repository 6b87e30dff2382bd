use Rattle.std.proofs.Common.{◌≡◌, ◌+◌, min}
use Rattle.d64_image.specs.Block.{sectors_on, first_block}
use Rattle.d64_image.specs.Image.{bytes_of as image_bytes}
use Rattle.d64_g64.specs.Dump.{first_codes, first_blocks}
use Rattle.d64_g64.proofs.dump.add_track.Given as goal

abbrev pub invariant-loop-sector : goal.invariant-loop-sector
invariant-loop-sector l = record {
  codes : l.blocks.codes.items ≡ first_codes l.file (first_block l.number + min l.sector (sectors_on l.number));
  bytes : l.blocks.bytes.items ≡ image_bytes (first_blocks l.file (first_block l.number + min l.sector (sectors_on l.number)));
}
