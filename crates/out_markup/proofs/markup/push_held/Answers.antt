use Rattle.out_markup.specs.Markup.{held_byte}
use Rattle.out_markup.proofs.Escapes.{held_more}
use Rattle.out_markup.proofs.markup.push_held.Goals as goal

pub loop-place-preserved : goal.loop-place-preserved
loop-place-preserved c =
    held_more (held_byte c.args.text.now) c.loop-place.out.items c.push.new.self.items c.args.out.now.items c.loop-place.place c.held_byte.result c.loop-place.invariant
    c.held_byte.ensures c.in_ok-push.ensures.items
