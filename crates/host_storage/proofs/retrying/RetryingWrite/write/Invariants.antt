-- An interrupted write has written nothing.
use Rattle.std.specs.Io.KnownBytes.{Keeps}
use Rattle.host_storage.proofs.retrying.RetryingWrite.write.Given as goal

abbrev pub invariant-loop : goal.invariant-loop
invariant-loop g l = Keeps (g.W.Write.contents l.initial.self.0) (g.W.Write.contents l.self.0)
