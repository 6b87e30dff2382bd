use Rattle.std.proofs.Common.{◌≡◌, ◌++◌, take}
use Rattle.std.specs.List.{flat_map}
use Rattle.cmd_diff.specs.ChangeText.{listed_block}
use Rattle.cmd_diff.proofs.lines.push_listed.Given as goal

abbrev pub invariant-loop-block : goal.invariant-loop-block
invariant-loop-block l = l.out.items ≡ l.initial.out.items ++ flat_map listed_block (take l.block-index l.blocks)
