use Rattle.std.proofs.Common.{◌≡◌, ◌*◌, ◌≤◌, take, vec_len}
use Rattle.d64_files.specs.FileData.{data_along}
use Rattle.d64_files.proofs.file_data.data_along.Given as goal

abbrev pub invariant-loop-block : goal.invariant-loop-block
invariant-loop-block l = record {
  value : l.bytes.items ≡ data_along l.image (take l.block-index l.blocks);
  len : vec_len l.bytes ≤ 254 * l.block-index;
}
