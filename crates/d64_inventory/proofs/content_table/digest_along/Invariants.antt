use Rattle.std.proofs.Common.{◌≡◌, ◌*◌, ◌≤◌, length, take}
use Rattle.sha2.specs.Hashers.{Holds256}
use Rattle.d64_files.specs.FileData.{data_along}
use Rattle.d64_inventory.proofs.content_table.digest_along.Given as goal

abbrev pub invariant-loop-block : goal.invariant-loop-block
invariant-loop-block l = record {
  holds : Holds256 l.hasher (data_along l.image (take l.block-index l.blocks));
  count : l.bytes ≡ length (data_along l.image (take l.block-index l.blocks));
  few : l.bytes ≤ 254 * l.block-index;
}
