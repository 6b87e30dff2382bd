use Rattle.std.proofs.Common.{rules, ◌≡◌, true, false, refl}
use Rattle.program_surveys.specs.Surveys.{is_input}
use Rattle.program_surveys.proofs.SurveyRuns.{first_case, second_case}
use Rattle.program_surveys.proofs.survey_job.reason_of_list.Goals as goal

pub returns-in-text : goal.returns-in-text
returns-in-text g c =
    let input : is_input c.args.list.now ≡ true = search (rules, c.in-text.is) in
    first_case (is_input c.args.list.now) _ _ input refl

pub returns-in_default : goal.returns-in_default
returns-in_default g c =
    let file : is_input c.args.list.now ≡ false = search (rules, c.in_default.not-text) in
    second_case (is_input c.args.list.now) _ _ file c.reason_of.ensures
