use Rattle.std.proofs.Common.{◌≡◌, ◌++◌, take, drop, length}
use Rattle.d64_image.specs.Patch.{restored_image, taken_blocks}
use Rattle.d64_image.proofs.patch.swap_blocks.Given as goal

-- the blocks so far are exchanged
abbrev pub invariant-loop-place : goal.invariant-loop-place
invariant-loop-place l = record {
  image : l.image ≡ restored_image l.initial.image (take l.place l.initial.kept);
  kept : l.kept ≡ taken_blocks l.initial.image (take l.place l.initial.kept) ++ drop l.place l.initial.kept;
  long : length l.kept ≡ l.place-end;
}
