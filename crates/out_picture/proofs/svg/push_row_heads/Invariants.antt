use Rattle.std.proofs.Common.{◌≡◌, ◌++◌, length}
use Rattle.std.specs.List.{flat_map}
use Rattle.d64_image.specs.Image.{tracks_of}
use Rattle.out_picture.specs.Svg.{row_head, row_heads}
use Rattle.out_picture.proofs.svg.push_row_heads.Given as goal

abbrev pub invariant-loop-track : goal.invariant-loop-track
invariant-loop-track l = l.out.items ++ flat_map row_head l.track-iterator ≡ l.fn.out.items ++ row_heads (tracks_of (length l.image))
