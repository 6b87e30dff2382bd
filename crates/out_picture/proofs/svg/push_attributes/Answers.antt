use Rattle.std.specs.Prelude.{codes}
use Rattle.out_messages.proofs.Joins.{join4}
use Rattle.out_markup.specs.Markup.{attribute}
use Rattle.out_picture.specs.Svg.{view_box, picture_attributes}
use Rattle.out_picture.proofs.svg.push_attributes.Goals as goal

pub returns : goal.returns
unfolding picture_attributes
returns c =
    join4 c.args.out.now.items (attribute (codes "xmlns") (codes "http://www.w3.org/2000/svg")) (attribute (codes "version") (codes "1.1"))
    (attribute (codes "class") (codes "disk")) (view_box c.args.high)
    c.push_attribute.new.out.items c.push_attribute-2.new.out.items c.push_attribute-3.new.out.items c.push_view_box.new.out.items
    c.in_ok-push_attribute.ensures c.in_ok-push_attribute-2.ensures c.in_ok-push_attribute-3.ensures c.in_ok-push_view_box.ensures
