-- Why a survey writes nothing to the standard error about a file that it calls clean.
use Rattle.std.proofs.Common.{◌≡◌, ◌∙◌, [], Option, None, Some, Result, Ok, Err, sym, ap}
use Rattle.std.specs.Prelude.{IfOk}
use Rattle.d64_survey.specs.Dump.{DumpView}
use Rattle.d64_g64.specs.DumpOf.{dump_of}
use Rattle.program_surveys.specs.FileOutcomes.{FileOutcome, KeepsQuiet, by_rule}
use Rattle.program_surveys.specs.declared.report.Verdict.TheVariants.{Clean, Failed}
use Rattle.program_surveys.specs.Printings.{Printing, bytes_outcome, survey_rule}

-- the result for a dump has no complaint, and a result with a complaint is a failure
pub survey-is_quiet : (printing : Printing) → KeepsQuiet (by_rule (survey_rule printing))
survey-is_quiet printing name None old outcome new done clean =
    let failed : Failed ≡ Clean = sym (ap (λ (a : FileOutcome). a.verdict) done.0) ∙ clean in cc
survey-is_quiet printing name (Some bytes) old outcome new done clean = by_dump (dump_of bytes) done.0
  where
    by_dump : (dump : Option DumpView) → outcome ≡ bytes_outcome printing name bytes dump → outcome.complaint ≡ []
    by_dump None is = let failed : Failed ≡ Clean = sym (ap (λ (a : FileOutcome). a.verdict) is) ∙ clean in cc
    by_dump (Some dump) is = ap (λ (a : FileOutcome). a.complaint) is

-- a report writes nothing to the standard error about a clean image, if there was memory to begin
pub report_is_quiet : {A E : Type 0} (made : Result A E) (printing : A → Printing) → IfOk made (λ report. KeepsQuiet (by_rule (survey_rule (printing report))))
report_is_quiet (Ok report) printing = survey-is_quiet (printing report)
report_is_quiet (Err error) printing = tt
