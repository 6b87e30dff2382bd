use Rattle.std.proofs.Common.{◌≡◌, ◌*◌, filter}
use Rattle.std.specs.List.{range_with_len}
use Rattle.d64_g64.specs.Starts.{is_start}
use Rattle.d64_g64.proofs.start.list_starts.Given as goal

abbrev pub invariant-loop-at : goal.invariant-loop-at
invariant-loop-at l = l.starts.items ≡ filter (is_start l.track) (range_with_len 0 (8 * l.at))
