use Rattle.std.proofs.Common.{rules}
use Rattle.cmd_extract.specs.Effects.{unpacks}
use Rattle.cmd_extract.specs.Extracts.{extract_heading}
use Rattle.program_surveys.specs.SurveyFiles.{files_in, survey_files_of}
use Rattle.cmd_extract.specs.Setup.{setup_of}
use Rattle.program_surveys.proofs.SurveyRuns.{survey_of}
use Rattle.cmd_extract.proofs.QuietWork.{extraction_is_quiet}
use Rattle.cmd_extract.proofs.job.extract_files.Goals as goal

pub returns-clause-ended : goal.returns-clause-ended
returns-clause-ended g c =
    survey_of (unpacks (setup_of c.args.requested c.args.form)) (extract_heading c.args.form) (survey_files_of c.args.names) (files_in c.new.result.names) _ _ c.run.result (search rules)
    (c.run.ensures.ended (setup_of c.args.requested c.args.form) (extract_heading c.args.form) (search rules))

pub returns-clause-silent : goal.returns-clause-silent
returns-clause-silent g c = λ unskipped is.
    c.run.ensures.silent (extraction_is_quiet (setup_of c.args.requested c.args.form) c.new-task.result (search rules) unskipped) is
