use Rattle.std.proofs.Common.{refl}
use Rattle.program_surveys.proofs.SurveyRuns.{not_begun}
use Rattle.program_surveys.proofs.survey_job.SurveyJob.run.Goals as goal

-- there was no memory for a report
pub returns-in-Err-clause-ended : goal.returns-in-Err-clause-ended
returns-in-Err-clause-ended g c = λ options heading made. not_begun (g.C.FileTask.effects options) heading _ _ _ _ refl refl refl c.report_on.ensures.reported
