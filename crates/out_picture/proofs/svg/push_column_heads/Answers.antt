use Rattle.std.proofs.Common.{◌≡◌, ℕ, ◌++◌, ap, ◌∙◌, arith}
use Rattle.std.specs.List.{flat_map, range_with_len}
use Rattle.out_picture.specs.Svg.{column_head, column_heads}
use Rattle.out_picture.proofs.Columns.{row_more}
use Rattle.out_picture.proofs.svg.push_column_heads.Goals as goal

pub loop-sector-preserved : goal.loop-sector-preserved
loop-sector-preserved c =
    row_more column_head c.loop-sector.out.items c.push_column_head.new.out.items c.args.out.now.items c.loop-sector.sector c.loop-sector.invariant c.in_ok-push_column_head.ensures

pub returns : goal.returns
unfolding column_heads
returns c =
    let e : c.loop-sector.sector ≡ 21 = omega arith in
    c.loop-sector.invariant ∙ ap (λ (n : ℕ). c.args.out.now.items ++ flat_map column_head (range_with_len 0 n)) e
