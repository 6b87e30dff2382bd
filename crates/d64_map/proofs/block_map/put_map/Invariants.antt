use Rattle.std.proofs.Common.{◌≡◌, ℕ, ◌≤◌, ◌++◌, get_or, length}
use Rattle.std.specs.List.{range_with_len}
use Rattle.d64_image.specs.Image.{tracks_of}
use Rattle.d64_map.specs.Map.{IsOfTrack, map_byte}
use Rattle.d64_map.proofs.block_map.put_map.Given as goal

-- the entries of the tracks so far are written, and all other bytes are the old ones
abbrev pub invariant-loop-track : goal.invariant-loop-track
invariant-loop-track l = record {
  split : range_with_len 1 (tracks_of (length l.image)) ≡ l.yielded ++ l.track-iterator;
  long : length l.map ≡ 256;
  written : (track k : ℕ) → 1 ≤ track → track ≤ length l.yielded → IsOfTrack track k → get_or l.map k 0 ≡ map_byte l.free k;
  others : (k : ℕ) → ((track : ℕ) → 1 ≤ track → track ≤ length l.yielded → IsOfTrack track k → ⊥) → get_or l.map k 0 ≡ get_or l.initial.map k 0;
}
