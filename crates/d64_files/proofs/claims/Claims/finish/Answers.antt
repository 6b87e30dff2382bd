use Rattle.std.proofs.Common.{refl}
use Rattle.d64_files.proofs.Repeats.{crossed_claims, clear_claims}
use Rattle.d64_files.proofs.claims.Claims.finish.Goals as goal

pub returns-then-self : goal.returns-then-self
returns-then-self c blocks is = (refl, crossed_claims c.args.self blocks c.if-self.true is)

pub returns-else-self : goal.returns-else-self
returns-else-self c blocks is = clear_claims c.args.self blocks c.if-self.false is
