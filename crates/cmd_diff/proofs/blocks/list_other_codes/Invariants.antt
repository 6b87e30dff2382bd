use Rattle.std.proofs.Common.{◌≡◌, ◌++◌}
use Rattle.std.specs.List.{filter}
use Rattle.cmd_diff.specs.Changes.{has_other_code, other_codes}
use Rattle.cmd_diff.proofs.blocks.list_other_codes.Given as goal

abbrev pub invariant-loop-block : goal.invariant-loop-block
invariant-loop-block l = l.blocks.items ++ filter (has_other_code l.old.codes l.new.codes) l.block-iterator ≡ l.fn.blocks.items ++ other_codes l.old l.new
