use Rattle.d64_scratched.proofs.Noted.{Noting}
use Rattle.d64_scratched.proofs.lowest.LowestSlots.of.Given as goal

abbrev pub invariant-loop-entry : goal.invariant-loop-entry
invariant-loop-entry l = Noting l.survey l.lowest l.entry-iterator
