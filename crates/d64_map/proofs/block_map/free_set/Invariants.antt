use Rattle.std.proofs.Common.{◌≡◌, ◌+◌, ◌++◌, length}
use Rattle.std.specs.List.{range_with_len}
use Rattle.d64_image.specs.Image.{tracks_of}
use Rattle.d64_image.specs.Block.{first_block}
use Rattle.d64_map.specs.Map.{free_below}
use Rattle.d64_map.proofs.block_map.free_set.Given as goal

abbrev pub invariant-loop-track : goal.invariant-loop-track
invariant-loop-track l = record {
  split : range_with_len 1 (tracks_of (length l.image)) ≡ l.yielded ++ l.track-iterator;
  free : l.free ≡ free_below l.image (first_block (length l.yielded + 1));
}
