use Rattle.std.proofs.Common.{ap, rules, ◌∙◌}
use Rattle.std.proofs.lemmas.Result.{IfOk-weaker}
use Rattle.cmd_catalogue.specs.Catalogue.{catalogue_heading, catalogue_printing, catalogue_rule}
use Rattle.cmd_catalogue.specs.declared.catalogue_printer.CataloguePrinter.{CataloguePrinter}
use Rattle.program_surveys.specs.FileOutcomes.{by_rule}
use Rattle.program_surveys.specs.SurveyFiles.{files_in, survey_files_of}
use Rattle.program_surveys.proofs.Quiet.{report_is_quiet}
use Rattle.program_surveys.proofs.SurveyRuns.{survey_of}
use Rattle.cmd_catalogue.proofs.job.make_catalogue.Goals as goal

pub returns-clause-ended : goal.returns-clause-ended
returns-clause-ended g c =
    survey_of (by_rule (catalogue_rule c.args.page)) (catalogue_heading c.args.page) (survey_files_of c.args.names) (files_in c.new.result.names) _ _ c.run.result (search rules)
    (c.run.ensures.ended (catalogue_rule c.args.page) (catalogue_heading c.args.page) (IfOk-weaker c.new-report.result _ _ (λ report is.
    let page = ap (λ (p : CataloguePrinter). p.page) is ∙ c.new-printer.ensures in (ap catalogue_rule page, ap catalogue_heading page)) c.new-report.ensures))

pub returns-clause-silent : goal.returns-clause-silent
returns-clause-silent g c = λ is. c.run.ensures.silent (report_is_quiet c.new-report.result (λ report. catalogue_printing report.printer.page)) is
