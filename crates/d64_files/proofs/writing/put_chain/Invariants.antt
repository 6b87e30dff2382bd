use Rattle.std.proofs.Common.{◌≡◌, ◌+◌, length, drop}
use Rattle.d64_image.specs.Patch.{StillRestores}
use Rattle.d64_files.specs.Writing.{blocks_for, with_chain}
use Rattle.d64_files.proofs.writing.put_chain.Given as goal

abbrev pub invariant-loop-place : goal.invariant-loop-place
invariant-loop-place l = record {
  image : with_chain l.image (drop l.place l.blocks) l.rest ≡ with_chain l.fn.image l.fn.blocks l.fn.bytes;
  long : length l.image ≡ length l.fn.image;
  back : StillRestores l.fn.image l.fn.patch l.image l.patch;
  count : l.place + blocks_for (length l.rest) ≡ length l.blocks;
}
