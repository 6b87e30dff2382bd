use Rattle.program_surveys.proofs.list_batch.ListRunPartHandler.prepare.Goals as goal

pub returns-clause-came : goal.returns-clause-came
returns-clause-came g c = λ first parts begun delivered come. (come, come.delivered.0)
