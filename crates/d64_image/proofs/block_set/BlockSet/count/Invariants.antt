use Rattle.std.proofs.Common.{◌≡◌, ◌*◌, ◌≤◌}
use Rattle.std.specs.FinSet as set
use Rattle.d64_image.specs.BlockSet.{marked_below}
use Rattle.d64_image.proofs.block_set.BlockSet.count.Given as goal

abbrev pub invariant-loop-place : goal.invariant-loop-place
invariant-loop-place l = record {
  counted : l.count ≡ set.len (marked_below (32 * l.place) l.self-inside.words);
  below : l.count ≤ 32 * l.place;
}
