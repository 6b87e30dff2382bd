use Rattle.std.proofs.Common.{◌≡◌, ◌++◌, map}
use Rattle.std.specs.Prelude.{string_bytes}
use Rattle.std.specs.List.{flat_map, range_with_len}
use Rattle.cmd_merge.specs.Lines.{error_at}
use Rattle.cmd_merge.proofs.lines.push_errors.Given as goal

abbrev pub invariant-loop-place : goal.invariant-loop-place
invariant-loop-place l = l.out.items ≡ l.initial.out.items ++ flat_map (error_at l.block (map string_bytes l.names) l.dumps) (range_with_len 0 l.place)
