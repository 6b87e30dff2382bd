use Rattle.out_markup.proofs.Escapes.{held_more}
use Rattle.cmd_catalogue.specs.Title.{plain_byte}
use Rattle.cmd_catalogue.proofs.title.push_plain.Goals as goal

pub loop-place-preserved : goal.loop-place-preserved
loop-place-preserved c =
    held_more (plain_byte c.args.text.now) c.loop-place.out.items c.push.new.self.items c.args.out.now.items c.loop-place.place c.plain_byte.result c.loop-place.invariant
    c.plain_byte.ensures c.in_ok-push.ensures.items
