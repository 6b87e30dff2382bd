use Rattle.std.proofs.Common.{◌≡◌, ◌*◌, ◌≤◌, length, take}
use Rattle.d64_files.specs.FileData.{data_along}
use Rattle.d64_leftovers.proofs.orphans.data_length.Given as goal

abbrev pub invariant-loop-block : goal.invariant-loop-block
invariant-loop-block l = record {
  count : l.bytes ≡ length (data_along l.image (take l.block-index l.blocks));
  few : l.bytes ≤ 254 * l.block-index;
}
