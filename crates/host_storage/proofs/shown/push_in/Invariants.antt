use Rattle.std.proofs.Common.{◌≡◌, ◌++◌, length}
use Rattle.host_storage.specs.Shown.{shown_in}
use Rattle.host_storage.proofs.shown.push_in.Given as goal

abbrev pub invariant-loop-left : goal.invariant-loop-left
invariant-loop-left l = l.out.items ++ shown_in l.medium l.left ≡ l.initial.out.items ++ shown_in l.medium l.bytes

abbrev pub decreases-loop-left : goal.decreases-loop-left
decreases-loop-left l = length l.left
