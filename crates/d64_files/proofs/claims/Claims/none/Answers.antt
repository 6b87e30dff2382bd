use Rattle.d64_files.proofs.Repeats.{none_claimed}
use Rattle.d64_files.proofs.claims.Claims.none.Goals as goal

pub returns : goal.returns
returns c = none_claimed c.empty.result c.empty.ensures.value
