use Rattle.std.proofs.Common.{length}
use Rattle.cbm_text.proofs.ProgramFiles.{ListedSoFar}
use Rattle.cbm_text.proofs.listing.list.Given as goal

abbrev pub invariant-loop-left : goal.invariant-loop-left
invariant-loop-left l = ListedSoFar l.initial.left l.text.items l.left

abbrev pub decreases-loop-left : goal.decreases-loop-left
decreases-loop-left l = length l.left
