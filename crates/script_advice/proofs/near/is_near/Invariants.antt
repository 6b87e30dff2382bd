use Rattle.std.proofs.Common.{◌≡◌, length}
use Rattle.script_advice.specs.Near.{is_near}
use Rattle.script_advice.proofs.near.is_near.Given as goal

-- the texts so far are the same
abbrev pub invariant-loop-left : goal.invariant-loop-left
invariant-loop-left l = is_near l.left l.right ≡ is_near l.fn.name l.fn.other

abbrev pub decreases-loop-left : goal.decreases-loop-left
decreases-loop-left l = length l.left
