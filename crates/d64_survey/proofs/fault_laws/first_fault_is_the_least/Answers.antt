use Rattle.d64_survey.proofs.FaultOrder.{sound, least}
use Rattle.d64_survey.proofs.fault_laws.first_fault_is_the_least.Goals as goal

pub returns-clause-none : goal.returns-clause-none
returns-clause-none c = sound

pub returns-clause-first : goal.returns-clause-first
returns-clause-first c = least
