use Rattle.std.specs.Prelude.{codes, decimal}
use Rattle.out_messages.proofs.Joins.{join3}
use Rattle.out_markup.specs.Markup.{attribute}
use Rattle.out_picture.specs.Svg.{view_box}
use Rattle.out_picture.proofs.svg.push_view_box.Goals as goal

pub returns : goal.returns
unfolding attribute view_box
returns c =
    join3 c.args.out.now.items (codes " viewBox=\"0 0 790 ") (decimal c.args.high) (codes "\"")
    c.extend_from_slice.new.self.items c.push_number.new.out.items c.extend_from_slice-2.new.self.items
    c.in_ok-extend_from_slice.ensures.items c.in_ok-push_number.ensures c.in_ok-extend_from_slice-2.ensures.items
