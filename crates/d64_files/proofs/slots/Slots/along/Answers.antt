use Rattle.std.proofs.Common.{arith}
use Rattle.d64_files.specs.Directory.{slots_in}
use Rattle.d64_files.proofs.SlotLists.{length-slots_in, length-entries}
use Rattle.d64_files.proofs.slots.Slots.along.Goals as goal

pub returns-clause-len : goal.returns-clause-len
returns-clause-len c =
    let slots = slots_in c.args.image.now c.args.blocks in
    let few = c.known_list.ensures.len in
    omega (arith, length-entries c.args.image.now slots, length-slots_in c.args.image.now c.args.blocks)
