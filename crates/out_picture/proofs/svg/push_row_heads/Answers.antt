use Rattle.std.proofs.Common.{ℕ, List, ◌++◌, ap, ◌∙◌}
use Rattle.std.specs.List.{flat_map}
use Rattle.out_picture.specs.Svg.{row_head, row_heads}
use Rattle.out_picture.proofs.svg.push_row_heads.Goals as goal

pub loop-track-init : goal.loop-track-init
unfolding row_heads
loop-track-init c =
    ap (λ (tracks : List ℕ). c.args.out.now.items ++ flat_map row_head tracks)
    (c.into_iter-track-iterator.ensures.into_iter_gives ∙ c.each_track-track-items.ensures.value)
