use Rattle.std.proofs.Common.{◌≡◌, ◌++◌}
use Rattle.std.specs.List.{flat_map, range_with_len}
use Rattle.out_picture.specs.Svg.{column_head}
use Rattle.out_picture.proofs.svg.push_column_heads.Given as goal

abbrev pub invariant-loop-sector : goal.invariant-loop-sector
invariant-loop-sector l = l.out.items ≡ l.initial.out.items ++ flat_map column_head (range_with_len 0 l.sector)
