use Rattle.std.proofs.Common.{◌≡◌, ℕ, ◌<◌, false}
use Rattle.std.specs.List.{HoldsAt}
use Rattle.host_names.specs.HostName.{is_same_name}
use Rattle.host_names.proofs.taken_names.find.Given as goal

abbrev pub invariant-loop-place : goal.invariant-loop-place
invariant-loop-place l = (k : ℕ) → k < l.place → HoldsAt (λ taken. is_same_name taken.name.items l.name ≡ false) l.names k
