use Rattle.std.proofs.Common.{◌≡◌, ℕ, ◌≤◌, ◌++◌, length}
use Rattle.std.specs.List.{range_with_len}
use Rattle.d64_image.specs.Image.{tracks_of}
use Rattle.d64_map.specs.Track.{members_on}
use Rattle.d64_map.specs.Map.{count_of, free_blocks}
use Rattle.d64_map.proofs.block_map.counts_fit.Given as goal

abbrev pub invariant-loop-track : goal.invariant-loop-track
invariant-loop-track l = record {
  split : range_with_len 1 (tracks_of (length l.image)) ≡ l.yielded ++ l.track-iterator;
  fit : (track : ℕ) → 1 ≤ track → track ≤ length l.yielded → count_of l.image track ≡ members_on (free_blocks l.image) track;
}
