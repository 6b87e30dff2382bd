use Rattle.std.proofs.Common.{◌≡◌, ◌+◌, ◌*◌}
use Rattle.std.specs.List.{flat_map, slice_range, range_with_len}
use Rattle.arrayvec.specs.ArrayVec.{array_vec_len}
use Rattle.script_text.specs.Dump.{dump_line}
use Rattle.script_text.proofs.dump.dump.Given as goal

abbrev pub invariant-loop-row : goal.invariant-loop-row
invariant-loop-row l = record {
  shown : l.lines.items ≡ flat_map (λ row. dump_line (16 * row) (slice_range l.block (16 * row) (16 * row + 16))) (range_with_len 0 l.row);
  len : array_vec_len l.lines ≡ 52 * l.row;
}
