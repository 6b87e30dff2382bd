use Rattle.std.proofs.Common.{rules}
use Rattle.d64_files.proofs.Repeats.{one_claimed}
use Rattle.d64_files.proofs.claims.Claims.claim.Goals as goal

pub returns : goal.returns
returns c before is = one_claimed before c.args.block c.args.self.now c.has.result _ _ is c.has.ensures.value (search rules) c.add.ensures.value
