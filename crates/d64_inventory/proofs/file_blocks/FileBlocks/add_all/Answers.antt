use Rattle.std.proofs.Common.{◌∙◌}
use Rattle.std.specs.FinSet as set
use Rattle.d64_survey.specs.Owners.{is_shared}
use Rattle.d64_inventory.proofs.FileTests.{one_more, flag_more}
use Rattle.d64_inventory.proofs.file_blocks.FileBlocks.add_all.Goals as goal

pub loop-block-preserved : goal.loop-block-preserved
loop-block-preserved c =
    let before = c.args.self.now in
    let old = c.loop-block.self in
    let new = c.add.new.self in
    let blocks = c.args.blocks.now in
    let invariant = c.loop-block.invariant in
    let within = c.loop-block-test.true in
    record {
      members = one_more before.members old.members new.members blocks c.loop-block.block-index c.block-item.result _ c.add.ensures.members invariant.members within c.block-item.is;
      broken = c.add.ensures.broken ∙ invariant.broken;
      shared = flag_more (is_shared c.args.survey.now) blocks c.loop-block.block-index c.block-item.result _ before.is_shared old.is_shared new.is_shared within c.block-item.is
          invariant.shared c.add.ensures.shared;
      free = flag_more (set.contains c.args.free.now) blocks c.loop-block.block-index c.block-item.result _ before.is_marked_free old.is_marked_free new.is_marked_free within c.block-item.is
          invariant.free c.add.ensures.free;
    }
