use Rattle.std.proofs.Common.{◌≡◌, ◌+◌, ◌-◌, ◌++◌}
use Rattle.std.specs.List.{range_with_len, flat_map, find}
use Rattle.std.specs.FinSet as set
use Rattle.d64_map.specs.Track.{blocks_on}
use Rattle.d64_map.proofs.search.pick_outward.Given as goal

abbrev pub invariant-loop-distance : goal.invariant-loop-distance
invariant-loop-distance l =
    find (set.contains l.free) (flat_map (λ distance. blocks_on (18 - distance) ++ blocks_on (18 + distance)) (range_with_len 1 17)) ≡ find (set.contains l.free) (flat_map (λ distance. blocks_on (18 - distance) ++ blocks_on (18 + distance)) (range_with_len l.distance (18 - l.distance)))
