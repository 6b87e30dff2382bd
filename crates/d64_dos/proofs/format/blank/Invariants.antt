use Rattle.std.proofs.Common.{◌≡◌, ◌++◌, drop, length}
use Rattle.std.specs.List.{range_with_len}
use Rattle.std.proofs.Math.ListN.{replicate}
use Rattle.d64_image.specs.Patch.{StillRestores}
use Rattle.d64_dos.proofs.format.blank.Given as goal

abbrev pub invariant-loop-block : goal.invariant-loop-block
invariant-loop-block l = record {
  split : range_with_len 0 (length l.fn.image) ≡ l.yielded ++ l.block-iterator;
  image : l.image ≡ replicate (length l.yielded) (replicate 256 0) ++ drop (length l.yielded) l.fn.image;
  long : length l.image ≡ length l.fn.image;
  back : StillRestores l.fn.image l.fn.patch l.image l.patch;
}
