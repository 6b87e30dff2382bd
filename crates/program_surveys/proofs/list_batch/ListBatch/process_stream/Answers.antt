use Rattle.program_surveys.proofs.ListSteps.{HasComeTo-none}
use Rattle.program_surveys.proofs.list_batch.ListBatch.process_stream.Goals as goal

pub read-requires-clause-begun : goal.read-requires-clause-begun
read-requires-clause-begun g c = HasComeTo-none _ _ c.clear.ensures c.requires.delivered
