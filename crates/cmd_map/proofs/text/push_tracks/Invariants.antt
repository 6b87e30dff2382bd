use Rattle.std.proofs.Common.{◌≡◌, ◌++◌}
use Rattle.std.specs.List.{flat_map}
use Rattle.cmd_map.specs.MapText.{track_line, track_lines}
use Rattle.cmd_map.proofs.text.push_tracks.Given as goal

abbrev pub invariant-loop-track : goal.invariant-loop-track
invariant-loop-track l = l.out.items ++ flat_map (track_line l.inspection) l.track-iterator ≡ l.fn.out.items ++ track_lines l.inspection
