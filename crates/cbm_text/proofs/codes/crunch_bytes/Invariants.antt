use Rattle.std.proofs.Common.{length}
use Rattle.cbm_text.proofs.CodesSoFar.{CrunchedSoFar}
use Rattle.cbm_text.proofs.codes.crunch_bytes.Given as goal

abbrev pub invariant-loop-left : goal.invariant-loop-left
invariant-loop-left l = CrunchedSoFar l.bytes l.codes.items l.mode l.left

abbrev pub decreases-loop-left : goal.decreases-loop-left
decreases-loop-left l = length l.left
