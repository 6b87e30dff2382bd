use Rattle.std.proofs.Common.{◌≡◌, ℕ, eqb, take}
use Rattle.std.specs.List.{list_any}
use Rattle.std.specs.FinSet as set
use Rattle.d64_leftovers.specs.Orphans.{blocks_linked}
use Rattle.d64_leftovers.proofs.left_blocks.blocks_linked.Given as goal

abbrev pub invariant-loop-block : goal.invariant-loop-block
invariant-loop-block l = (block : ℕ) → set.contains l.linked block ≡ list_any (eqb block) (blocks_linked l.image (take l.block-index l.blocks))
