use Rattle.d64_survey.proofs.SoundWays.{ways_are_chains}
use Rattle.d64_survey.proofs.fault_laws.ways_are_chains_where_no_fault_is.Goals as goal

pub returns : goal.returns
returns c = ways_are_chains
