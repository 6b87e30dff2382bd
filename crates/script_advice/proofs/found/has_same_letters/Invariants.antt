use Rattle.std.proofs.Common.{◌≡◌, length}
use Rattle.script_advice.specs.Found.{has_same_letters}
use Rattle.script_advice.proofs.found.has_same_letters.Given as goal

-- the letters so far are the same
abbrev pub invariant-loop-left : goal.invariant-loop-left
invariant-loop-left l = has_same_letters l.left l.right ≡ has_same_letters l.fn.name l.fn.other

abbrev pub decreases-loop-left : goal.decreases-loop-left
decreases-loop-left l = length l.left
