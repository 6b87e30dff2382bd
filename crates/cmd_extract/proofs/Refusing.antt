-- The result of an image that is refused with the right complaint.
use Rattle.std.proofs.Common.{◌≡◌, ℕ, List, Result, Ok, Err, ap₂, ◌∙◌}
use Rattle.std.specs.Prelude.{IfOk}
use Rattle.program_surveys.specs.FileOutcomes.{FileOutcome}
use Rattle.program_surveys.specs.declared.report.Verdict.{Verdict}
use Rattle.cmd_extract.specs.Setup.{ExtractSetupView}
use Rattle.cmd_extract.specs.Unpacking.{refused_outcome}

-- a result for this name, with this complaint
pub refused_with : {E : Type 0} (result : Result Verdict E) (outcome : Verdict → FileOutcome) (setup : ExtractSetupView) (named name error complaint wanted : List ℕ) → named ≡ name → complaint ≡ wanted
    → IfOk result (λ verdict. outcome verdict ≡ refused_outcome setup named error complaint) → IfOk result (λ verdict. outcome verdict ≡ refused_outcome setup name error wanted)
refused_with (Ok verdict) outcome setup named name error complaint wanted is_name is reported = reported ∙ ap₂ (λ n c. refused_outcome setup n error c) is_name is
refused_with (Err fault) outcome setup named name error complaint wanted is_name is reported = tt
