use Rattle.d64_map.proofs.Plans.{plan-choice, plan-there}
use Rattle.d64_map.proofs.laws.plan_takes_free_blocks.Goals as goal

pub returns-clause-blocks : goal.returns-clause-blocks
returns-clause-blocks c = λ free count taken e. plan-choice count free taken e

pub returns-clause-there : goal.returns-clause-there
returns-clause-there c = λ free count. plan-there count free
