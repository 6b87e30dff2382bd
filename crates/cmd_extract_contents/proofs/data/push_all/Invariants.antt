use Rattle.std.proofs.Common.{◌≡◌, ◌++◌, take}
use Rattle.cmd_extract_contents.specs.Portions.{all_along}
use Rattle.cmd_extract_contents.proofs.data.push_all.Given as goal

abbrev pub invariant-loop-block : goal.invariant-loop-block
invariant-loop-block l = l.bytes.items ≡ l.fn.bytes.items ++ all_along l.image (take l.block-index l.blocks)
