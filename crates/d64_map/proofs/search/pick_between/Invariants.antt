use Rattle.std.proofs.Common.{◌≡◌, ◌+◌, ◌-◌}
use Rattle.std.specs.List.{range_with_len, find}
use Rattle.std.specs.FinSet as set
use Rattle.d64_image.specs.Block.{first_block}
use Rattle.d64_map.proofs.search.pick_between.Given as goal

abbrev pub invariant-loop-sector : goal.invariant-loop-sector
invariant-loop-sector l =
    find (set.contains l.free) (range_with_len (first_block l.fn.track + l.start) (l.end - l.start)) ≡ find (set.contains l.free) (range_with_len (first_block l.fn.track + l.sector) (l.end - l.sector))
