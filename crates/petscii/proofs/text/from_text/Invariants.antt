use Rattle.std.proofs.Common.{length}
use Rattle.petscii.proofs.Readings.{ReadsSoFar}
use Rattle.petscii.proofs.text.from_text.Given as goal

abbrev pub invariant-loop-left : goal.invariant-loop-left
invariant-loop-left l = ReadsSoFar l.text l.bytes.items l.left

abbrev pub decreases-loop-left : goal.decreases-loop-left
decreases-loop-left l = length l.left
