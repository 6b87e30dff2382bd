use Rattle.std.proofs.Common.{◌≡◌, ◌-◌}
use Rattle.std.specs.List.{flat_map, find}
use Rattle.std.specs.FinSet as set
use Rattle.d64_map.specs.Track.{blocks_on}
use Rattle.d64_map.specs.Side.{tracks_along}
use Rattle.d64_map.proofs.search.pick_along.Given as goal

abbrev pub invariant-loop-distance : goal.invariant-loop-distance
invariant-loop-distance l =
    find (set.contains l.free) (flat_map blocks_on (tracks_along l.side l.start (l.end - l.start))) ≡ find (set.contains l.free) (flat_map blocks_on (tracks_along l.side l.distance (l.end - l.distance)))
