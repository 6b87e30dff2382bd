use Rattle.d64_effects.specs.Validate.{is_unclosed}
use Rattle.d64_dos.proofs.ClearedSlots.{begins}
use Rattle.d64_dos.proofs.validate.unclosed_slots.Goals as goal

pub loop-entry-init : goal.loop-entry-init
loop-entry-init c =
    let start = begins is_unclosed c.args.directory.now c.new-places.result.items c.slots-entry-items.result c.into_iter-entry-iterator.result
    c.new-places.ensures c.into_iter-entry-iterator.ensures.into_iter_gives c.slots-entry-items.ensures.slots c.slots-entry-items.ensures.len in
    record { places = start.taken; room = start.room }
