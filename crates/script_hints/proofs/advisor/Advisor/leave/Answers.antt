use Rattle.script_hints.proofs.Saying.{unwritten, written}
use Rattle.script_hints.proofs.advisor.Advisor.leave.Goals as goal

pub returns-then-self-clause-ended : goal.returns-then-self-clause-ended
returns-then-self-clause-ended g c = rw c.if-self.true (written _ _ _ c.write.ensures.either)

pub returns-else-self-clause-ended : goal.returns-else-self-clause-ended
returns-else-self-clause-ended g c = rw c.if-self.false (unwritten _)
