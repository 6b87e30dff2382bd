use Rattle.std.proofs.Common.{◌||◌, Bool, not, ltb, eqb, List, length, ap, ◌∙◌}
use Rattle.d64_survey.specs.Faults.{faults}
use Rattle.d64_survey.specs.Doubts.{doubts}
use Rattle.d64_survey.specs.Inspection.{unwhole_count, is_sound, is_amiss}
use Rattle.d64_survey.specs.declared.doubt.Doubt.{Doubt}
use Rattle.d64_survey.specs.declared.fault.Fault.{Fault}
use Rattle.d64_survey.proofs.Amiss.{no_error}
use Rattle.d64_survey.proofs.DoubtTests.{nothing_left, something_left, or_true, or_false}
use Rattle.d64_survey.proofs.FaultOrder.{sound}
use Rattle.d64_survey.proofs.doubt_laws.doubts_leave_soundness.Goals as goal

pub returns-clause-sound : goal.returns-clause-sound
returns-clause-sound c = λ image size found is. (
  λ e. (sound image size).0 (nothing_left (faults image) e),
  λ all. ap (λ (list : List Fault). eqb (length list) 0) ((sound image size).1 all),
)

pub returns-clause-doubtful : goal.returns-clause-doubtful
unfolding is_amiss
returns-clause-doubtful c = λ dump some.
    ap (λ (t : Bool). not (is_sound dump.image) || (not (no_error dump) || (ltb 0 (unwhole_count dump) || not t))) (something_left (doubts dump.image) some)
    ∙ ap (λ (t : Bool). not (is_sound dump.image) || (not (no_error dump) || t)) (or_true (ltb 0 (unwhole_count dump)))
    ∙ ap (λ (t : Bool). not (is_sound dump.image) || t) (or_true (not (no_error dump)))
    ∙ or_true (not (is_sound dump.image))

pub returns-clause-free : goal.returns-clause-free
unfolding is_amiss
returns-clause-free c = λ dump none.
    ap (λ (list : List Doubt). not (is_sound dump.image) || (not (no_error dump) || (ltb 0 (unwhole_count dump) || not (eqb (length list) 0)))) none
    ∙ ap (λ (t : Bool). not (is_sound dump.image) || (not (no_error dump) || t)) (or_false (ltb 0 (unwhole_count dump)))
