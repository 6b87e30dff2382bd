use Rattle.d64_merge.proofs.EqualDumps.{equal_law}
use Rattle.d64_merge.proofs.laws.equal_dumps_make_that_dump.Goals as goal

pub returns : goal.returns
returns c = equal_law
