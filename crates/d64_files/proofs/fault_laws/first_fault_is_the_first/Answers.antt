use Rattle.d64_files.proofs.FirstFaults.{sound_decides, owning_decides, reading_decides}
use Rattle.d64_files.proofs.fault_laws.first_fault_is_the_first.Goals as goal

pub returns-clause-sound : goal.returns-clause-sound
returns-clause-sound c = sound_decides

pub returns-clause-owning : goal.returns-clause-owning
returns-clause-owning c = owning_decides

pub returns-clause-reading : goal.returns-clause-reading
returns-clause-reading c = reading_decides
