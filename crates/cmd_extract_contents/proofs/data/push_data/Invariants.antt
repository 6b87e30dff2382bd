use Rattle.std.proofs.Common.{◌≡◌, ◌++◌, take}
use Rattle.d64_files.specs.FileData.{data_along}
use Rattle.cmd_extract_contents.proofs.data.push_data.Given as goal

abbrev pub invariant-loop-block : goal.invariant-loop-block
invariant-loop-block l = l.bytes.items ≡ l.fn.bytes.items ++ data_along l.image (take l.block-index l.blocks)
