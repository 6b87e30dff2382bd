use Rattle.std.proofs.Common.{rules}
use Rattle.std.specs.Prelude.{[], ◌∷◌, string_bytes}
use Rattle.cmd_map.specs.Pictures.{map_printing, map_rule}
use Rattle.program_surveys.specs.FileOutcomes.{by_rule}
use Rattle.program_surveys.specs.SurveyFiles.{Named, files_in}
use Rattle.program_surveys.proofs.Quiet.{report_is_quiet}
use Rattle.program_surveys.proofs.SurveyRuns.{survey_of}
use Rattle.cmd_map.proofs.job.draw_map.Goals as goal

pub returns-clause-ended : goal.returns-clause-ended
returns-clause-ended g c =
    survey_of (by_rule (map_rule c.args.form)) [] (Named (string_bytes c.args.file ∷ [])) (files_in c.new.result.names) _ _ c.run.result (search rules)
    (c.run.ensures.ended (map_rule c.args.form) [] (search rules))

pub returns-clause-silent : goal.returns-clause-silent
returns-clause-silent g c = λ is. c.run.ensures.silent (report_is_quiet c.new-report.result (λ report. map_printing report.printer.form)) is
