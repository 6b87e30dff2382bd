use Rattle.d64_files.proofs.Repeats.{claimed_set}
use Rattle.d64_files.proofs.claims.Claims.into_blocks.Goals as goal

pub returns : goal.returns
returns c blocks is = claimed_set c.args.self blocks is
