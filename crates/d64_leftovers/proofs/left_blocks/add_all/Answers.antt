use Rattle.d64_inventory.proofs.FileTests.{one_more}
use Rattle.d64_leftovers.proofs.left_blocks.add_all.Goals as goal

pub loop-block-preserved : goal.loop-block-preserved
loop-block-preserved c =
    one_more c.args.members.now c.loop-block.members c.add.new.self c.args.blocks.now c.loop-block.block-index c.block-item.result _ c.add.ensures.value c.loop-block.invariant
    c.loop-block-test.true c.block-item.is
