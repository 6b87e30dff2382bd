use Rattle.std.proofs.Common.{take}
use Rattle.d64_scratched.specs.Claims.{Lowers}
use Rattle.d64_scratched.proofs.lowest.LowestSlots.lower_all.Given as goal

abbrev pub invariant-loop-block : goal.invariant-loop-block
invariant-loop-block l = Lowers l.fn.self (take l.block-index l.blocks) l.slot l.self
