use Rattle.std.proofs.Common.{arith}
use Rattle.d64_image.specs.declared.block.TheConstants.{BLOCKS}
use Rattle.d64_history.proofs.Leads.{most}
use Rattle.d64_history.proofs.keeping.put_record.Goals as goal

-- a record has no more blocks than a disk
pub overflow_cast-blocks : goal.overflow_cast-blocks
overflow_cast-blocks c =
    let few = most c.args.blocks.now 0 BLOCKS c.requires (omega arith) in
    omega arith
