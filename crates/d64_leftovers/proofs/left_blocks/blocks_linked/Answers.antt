use Rattle.d64_leftovers.proofs.LeftBlocks.{none_yet, link_more}
use Rattle.d64_leftovers.proofs.left_blocks.blocks_linked.Goals as goal

pub loop-block-init : goal.loop-block-init
loop-block-init c = none_yet c.empty-linked.result c.empty-linked.ensures.value

pub loop-block-preserved : goal.loop-block-preserved
loop-block-preserved c =
    link_more c.args.image.now c.loop-block.linked c.add_link.new.members c.args.blocks.now c.loop-block.block-index c.block-item.result _ c.add_link.ensures c.loop-block.invariant
    c.loop-block-test.true c.block-item.is
