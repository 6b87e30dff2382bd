use Rattle.std.proofs.Common.{rules}
use Rattle.cmd_files.specs.Files.{files_printing, files_rule, file_heading_of as files_heading}
use Rattle.program_surveys.specs.FileOutcomes.{by_rule}
use Rattle.program_surveys.specs.SurveyFiles.{files_in, survey_files_of}
use Rattle.program_surveys.proofs.Quiet.{report_is_quiet}
use Rattle.program_surveys.proofs.SurveyRuns.{survey_of}
use Rattle.cmd_files.proofs.job.print_files.Goals as goal

pub returns-clause-ended : goal.returns-clause-ended
returns-clause-ended g c =
    survey_of (by_rule (files_rule c.args.form)) (files_heading c.args.form) (survey_files_of c.args.names) (files_in c.new.result.names) _ _ c.run.result (search rules)
    (c.run.ensures.ended (files_rule c.args.form) (files_heading c.args.form) (search rules))

pub returns-clause-silent : goal.returns-clause-silent
returns-clause-silent g c = λ is. c.run.ensures.silent (report_is_quiet c.new-report.result (λ report. files_printing report.printer.form)) is
