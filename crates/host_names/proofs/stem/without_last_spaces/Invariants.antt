use Rattle.std.proofs.Common.{◌≡◌, length}
use Rattle.host_names.specs.HostName.{without_last_spaces}
use Rattle.host_names.proofs.stem.without_last_spaces.Given as goal

abbrev pub invariant-loop-last : goal.invariant-loop-last
invariant-loop-last l = without_last_spaces l.left ≡ without_last_spaces l.name

abbrev pub decreases-loop-last : goal.decreases-loop-last
decreases-loop-last l = length l.left
