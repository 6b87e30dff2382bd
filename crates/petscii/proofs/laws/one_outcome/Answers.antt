use Rattle.petscii.proofs.Readings.{one_reading, no_fault, one_fault}
use Rattle.petscii.proofs.laws.one_outcome.Goals as goal

pub returns-clause-one_reading : goal.returns-clause-one_reading
returns-clause-one_reading c = one_reading c.args.text.now

pub returns-clause-no_fault : goal.returns-clause-no_fault
returns-clause-no_fault c = no_fault c.args.text.now

pub returns-clause-one_fault : goal.returns-clause-one_fault
returns-clause-one_fault c = one_fault c.args.text.now
