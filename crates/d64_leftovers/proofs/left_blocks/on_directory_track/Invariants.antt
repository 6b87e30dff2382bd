use Rattle.std.proofs.Common.{◌≡◌, ◌≤◌, length, take}
use Rattle.std.specs.Prelude.{◌==◌, filter}
use Rattle.d64_image.specs.Block.{pair_at}
use Rattle.d64_files.specs.Chain.{LieIn}
use Rattle.d64_leftovers.proofs.left_blocks.on_directory_track.Given as goal

abbrev pub invariant-loop-block : goal.invariant-loop-block
invariant-loop-block l = record {
  found : l.found ≡ filter (λ block. (pair_at block).0 == 18) (take l.block-index l.blocks);
  held : LieIn l.image l.found;
  few : length l.found ≤ l.block-index;
}
