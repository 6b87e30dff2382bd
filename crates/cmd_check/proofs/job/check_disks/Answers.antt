use Rattle.std.proofs.Common.{ap, ap₂, rules, ◌∙◌}
use Rattle.std.proofs.lemmas.Result.{IfOk-weaker}
use Rattle.cmd_check.specs.Check.{check_printing, check_rule, heading_of as check_heading}
use Rattle.cmd_check.specs.declared.check_printer.CheckPrinter.{CheckPrinter}
use Rattle.program_surveys.specs.FileOutcomes.{by_rule}
use Rattle.program_surveys.specs.SurveyFiles.{files_in, survey_files_of}
use Rattle.program_surveys.proofs.Quiet.{report_is_quiet}
use Rattle.program_surveys.proofs.SurveyRuns.{survey_of}
use Rattle.cmd_check.proofs.job.check_disks.Goals as goal

pub returns-clause-ended : goal.returns-clause-ended
returns-clause-ended g c =
    survey_of (by_rule (check_rule c.args.format c.args.digest)) (check_heading c.args.format c.args.digest) (survey_files_of c.args.names) (files_in c.new.result.names) _ _ c.run.result (search rules)
    (c.run.ensures.ended (check_rule c.args.format c.args.digest) (check_heading c.args.format c.args.digest) (IfOk-weaker c.new-report.result _ _ (λ report is.
    let form = ap (λ (p : CheckPrinter). p.form) is ∙ c.new-printer.ensures.form in
    let digest = ap (λ (p : CheckPrinter). p.has_digest) is ∙ c.new-printer.ensures.digest in (ap₂ check_rule form digest, ap₂ check_heading form digest)) c.new-report.ensures))

pub returns-clause-silent : goal.returns-clause-silent
returns-clause-silent g c = λ is. c.run.ensures.silent (report_is_quiet c.new-report.result (λ report. check_printing report.printer.form report.printer.has_digest)) is
