use Rattle.std.proofs.Common.{◌≡◌, ℕ, ◌||◌, eqb, take}
use Rattle.std.specs.List.{list_any}
use Rattle.std.specs.FinSet as set
use Rattle.d64_leftovers.proofs.left_blocks.add_all.Given as goal

abbrev pub invariant-loop-block : goal.invariant-loop-block
invariant-loop-block l = (block : ℕ) → set.contains l.members block ≡ (set.contains l.fn.members block || list_any (eqb block) (take l.block-index l.blocks))
