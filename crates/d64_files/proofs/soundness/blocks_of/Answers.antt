use Rattle.std.proofs.Common.{[]}
use Rattle.d64_files.specs.Ownership.{owned_by}
use Rattle.d64_files.proofs.soundness.blocks_of.Goals as goal

pub returns-in-Ok : goal.returns-in-Ok
returns-in-Ok c =
    c.into_blocks.ensures (owned_by c.args.image.now c.args.entry.now.bytes) (c.in-Ok.ensures.claimed [] c.none-claims.ensures)

pub returns-in-Err : goal.returns-in-Err
returns-in-Err c = absurd (c.in-Err.ensures.chains.1 c.requires)
