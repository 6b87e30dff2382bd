use Rattle.std.proofs.Common.{◌≡◌, ◌++◌, length}
use Rattle.std.specs.List.{flat_map, range_with_len}
use Rattle.d64_image.specs.Image.{tracks_of}
use Rattle.d64_survey.specs.Faults.{count_fault}
use Rattle.d64_survey.proofs.fault_list.list_counts.Given as goal

abbrev pub invariant-loop-track : goal.invariant-loop-track
invariant-loop-track l = record {
  split : range_with_len 1 (tracks_of (length l.image)) ≡ l.yielded ++ l.track-iterator;
  listed : l.faults.items ≡ l.fn.faults.items ++ flat_map (count_fault l.image) l.yielded;
}
