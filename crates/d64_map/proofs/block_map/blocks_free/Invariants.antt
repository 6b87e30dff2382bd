use Rattle.std.proofs.Common.{◌≡◌, ◌==◌, ◌≤◌, ◌*◌, ◌++◌, not, length}
use Rattle.std.specs.List.{range_with_len, sum_by, filter}
use Rattle.d64_image.specs.Image.{tracks_of}
use Rattle.d64_map.specs.Map.{count_of}
use Rattle.d64_map.proofs.block_map.blocks_free.Given as goal

abbrev pub invariant-loop-track : goal.invariant-loop-track
invariant-loop-track l = record {
  split : range_with_len 1 (tracks_of (length l.image)) ≡ l.yielded ++ l.track-iterator;
  summed : l.sum ≡ sum_by (count_of l.image) (filter (λ track. not (track == 18)) l.yielded);
  few : l.sum ≤ 255 * length l.yielded;
}
