use Rattle.host_memory.proofs.Countdowns.{at_one_once}
use Rattle.host_memory.proofs.memory_host.MemoryHost.fail_at.Goals as goal

pub returns-clause-exactly : goal.returns-clause-exactly
returns-clause-exactly c = λ calls. at_one_once calls c.args.k
