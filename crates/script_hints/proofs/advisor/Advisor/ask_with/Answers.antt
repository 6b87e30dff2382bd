use Rattle.script_hints.proofs.Saying.{unwritten, written}
use Rattle.script_hints.proofs.advisor.Advisor.ask_with.Goals as goal

pub returns-then-not-self-clause-asked : goal.returns-then-not-self-clause-asked
returns-then-not-self-clause-asked g c = rw c.if-not-self.true (unwritten _)

pub returns-clause-asked : goal.returns-clause-asked
returns-clause-asked g c = rw c.if-not-self.false (written _ _ _ (rw (c.bytes_of.ensures, c.is_unsaved-is_unsaved.ensures) at c.write_prompt.ensures.either))
