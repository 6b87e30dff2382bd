use Rattle.std.proofs.Common.{rules, ◌≡◌, ap, ◌∙◌, Ok, Err, true, false}
use Rattle.program_console.specs.Outside.{account_at}
use Rattle.program_surveys.specs.Surveys.{is_input}
use Rattle.program_surveys.proofs.SurveyRuns.{over_file, over_given, over_input, surveyed}
use Rattle.program_surveys.proofs.survey_job.SurveyJob.survey.Goals as goal

pub returns-in_err-process_files-in-Given-clause-surveyed : goal.returns-in_err-process_files-in-Given-clause-surveyed
returns-in_err-process_files-in-Given-clause-surveyed g c = (
  c.process_files.new.self.worst,
  Err c.in_err-process_files-in-Given.field-0.0,
  surveyed _ _ _ _ _ _ _ _ _ _ _ _ c.begin.new.self.worst _ c.in_ok-begin.field-0 _ c.in_ok-begin.ensures.begun (c.begin.ensures.worst ∙ c.new-batch.ensures) (ap g.C.FileTask.effects c.begin.ensures.options) (ap (account_at g.F.Write.contents) c.begin.ensures.silent)
      (over_given _ c.args.self.now.names c.in-Given.names _ _ _ _ _ c.in-Given.is c.in_err-process_files-in-Given.ensures.processed),
  search rules,
)

pub returns-in-Given-clause-surveyed : goal.returns-in-Given-clause-surveyed
returns-in-Given-clause-surveyed g c = (
  c.process_files.new.self.worst,
  Ok c.in_ok-process_files-in-Given.field-0,
  surveyed _ _ _ _ _ _ _ _ _ _ _ _ c.begin.new.self.worst _ c.in_ok-begin.field-0 _ c.in_ok-begin.ensures.begun (c.begin.ensures.worst ∙ c.new-batch.ensures) (ap g.C.FileTask.effects c.begin.ensures.options) (ap (account_at g.F.Write.contents) c.begin.ensures.silent)
      (over_given _ c.args.self.now.names c.in-Given.names _ _ _ _ _ c.in-Given.is c.in_ok-process_files-in-Given.ensures.processed),
  ap Ok c.worst.ensures,
)

pub returns-in_err-process_stream-in-text-clause-surveyed : goal.returns-in_err-process_stream-in-text-clause-surveyed
returns-in_err-process_stream-in-text-clause-surveyed g c =
    let input : is_input c.in-Listed.list.now ≡ true = search (rules, c.in-text.is) in (
      c.process_stream.new.self.batch.worst,
      Err c.in_err-process_stream-in-text.field-0.0,
      surveyed _ _ _ _ _ _ _ _ _ _ _ _ c.new-batch-in-Listed.result.batch.worst _ c.in_ok-begin.field-0 _ c.in_ok-begin.ensures.begun
          (c.new-batch-in-Listed.ensures.worst ∙ c.begin.ensures.worst ∙ c.new-batch.ensures) (ap g.C.FileTask.effects c.begin.ensures.options) (ap (account_at g.F.Write.contents) c.begin.ensures.silent)
          (over_input _ c.args.self.now.names c.in-Listed.list c.in-Listed.separator c.new-batch-in-Listed.result.separator _ _ _ _ _ _ c.in-Listed.is input
          c.new-batch-in-Listed.ensures.separator c.in_err-process_stream-in-text.ensures.processed),
      search rules,
    )

pub returns-in-text-clause-surveyed : goal.returns-in-text-clause-surveyed
returns-in-text-clause-surveyed g c =
    let input : is_input c.in-Listed.list.now ≡ true = search (rules, c.in-text.is) in (
      c.process_stream.new.self.batch.worst,
      Ok c.in_ok-process_stream-in-text.field-0,
      surveyed _ _ _ _ _ _ _ _ _ _ _ _ c.new-batch-in-Listed.result.batch.worst _ c.in_ok-begin.field-0 _ c.in_ok-begin.ensures.begun
          (c.new-batch-in-Listed.ensures.worst ∙ c.begin.ensures.worst ∙ c.new-batch.ensures) (ap g.C.FileTask.effects c.begin.ensures.options) (ap (account_at g.F.Write.contents) c.begin.ensures.silent)
          (over_input _ c.args.self.now.names c.in-Listed.list c.in-Listed.separator c.new-batch-in-Listed.result.separator _ _ _ _ _ _ c.in-Listed.is input
          c.new-batch-in-Listed.ensures.separator c.in_ok-process_stream-in-text.ensures.processed),
      ap Ok c.worst-in-text.ensures,
    )

pub returns-in_err-process_list_file-in_default-clause-surveyed : goal.returns-in_err-process_list_file-in_default-clause-surveyed
returns-in_err-process_list_file-in_default-clause-surveyed g c =
    let file : is_input c.in-Listed.list.now ≡ false = search (rules, c.in_default.not-text) in (
      c.process_list_file.new.batch.batch.worst,
      Err c.in_err-process_list_file-in_default.field-0.0,
      surveyed _ _ _ _ _ _ _ _ _ _ _ _ c.new-batch-in-Listed.result.batch.worst _ c.in_ok-begin.field-0 _ c.in_ok-begin.ensures.begun
          (c.new-batch-in-Listed.ensures.worst ∙ c.begin.ensures.worst ∙ c.new-batch.ensures) (ap g.C.FileTask.effects c.begin.ensures.options) (ap (account_at g.F.Write.contents) c.begin.ensures.silent)
          (over_file _ c.args.self.now.names c.in-Listed.list c.in-Listed.separator c.new-batch-in-Listed.result.separator _ _ _ _ _ c.in-Listed.is file
          c.new-batch-in-Listed.ensures.separator c.in_err-process_list_file-in_default.ensures.processed),
      search rules,
    )

pub returns-clause-surveyed : goal.returns-clause-surveyed
returns-clause-surveyed g c =
    let file : is_input c.in-Listed.list.now ≡ false = search (rules, c.in_default.not-text) in (
      c.process_list_file.new.batch.batch.worst,
      Ok c.in_ok-process_list_file-in_default.field-0,
      surveyed _ _ _ _ _ _ _ _ _ _ _ _ c.new-batch-in-Listed.result.batch.worst _ c.in_ok-begin.field-0 _ c.in_ok-begin.ensures.begun
          (c.new-batch-in-Listed.ensures.worst ∙ c.begin.ensures.worst ∙ c.new-batch.ensures) (ap g.C.FileTask.effects c.begin.ensures.options) (ap (account_at g.F.Write.contents) c.begin.ensures.silent)
          (over_file _ c.args.self.now.names c.in-Listed.list c.in-Listed.separator c.new-batch-in-Listed.result.separator _ _ _ _ _ c.in-Listed.is file
          c.new-batch-in-Listed.ensures.separator c.in_ok-process_list_file-in_default.ensures.processed),
      ap Ok c.worst-in_default.ensures,
    )
