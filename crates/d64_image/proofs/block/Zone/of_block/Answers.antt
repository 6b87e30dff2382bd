use Rattle.std.proofs.Common.{◌+◌, ◌-◌, ◌/◌, arith}
use Rattle.d64_image.proofs.Zones.{lies_in_first, lies_in_second, lies_in_third, lies_in_fourth}
use Rattle.d64_image.proofs.block.Zone.of_block.Goals as goal

pub returns-then-index-clause-track : goal.returns-then-index-clause-track
returns-then-index-clause-track c = lies_in_first (1 + (c.args.index - 0) / 21) (omega arith) (omega arith)

pub returns-then-index-2-clause-track : goal.returns-then-index-2-clause-track
returns-then-index-2-clause-track c = lies_in_second (18 + (c.args.index - 357) / 19) (omega arith) (omega arith)

pub returns-then-index-3-clause-track : goal.returns-then-index-3-clause-track
returns-then-index-3-clause-track c = lies_in_third (25 + (c.args.index - 490) / 18) (omega arith) (omega arith)

pub returns-else-index-3-clause-track : goal.returns-else-index-3-clause-track
returns-else-index-3-clause-track c = lies_in_fourth (31 + (c.args.index - 598) / 17) (omega arith) (omega arith)
