use Rattle.program_surveys.proofs.ListSteps.{Runs-no_name, Runs-name}
use Rattle.program_surveys.proofs.list_batch.ListBatch.end.Goals as goal

pub returns-in-Some-clause-processed : goal.returns-in-Some-clause-processed
returns-in-Some-clause-processed g c = Runs-name _ _ _ _ _ _ c.in-Some.ensures c.process.ensures.processed

pub returns-in-None-clause-processed : goal.returns-in-None-clause-processed
returns-in-None-clause-processed g c = Runs-no_name _ _ _ c.in-None.ensures
