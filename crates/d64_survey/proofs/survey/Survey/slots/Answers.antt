use Rattle.std.proofs.Common.{ℕ, List, sym, ap, ◌∙◌, subst}
use Rattle.d64_files.specs.Chain.{LieIn}
use Rattle.d64_files.specs.Directory.{slots_in, entries}
use Rattle.d64_survey.specs.Owners.{way_slots}
use Rattle.d64_survey.proofs.survey.Survey.slots.Goals as goal

pub along-requires : goal.along-requires
along-requires c = subst (LieIn c.self.inside.image.now) (sym c.copy.ensures) c.self.invariant.2

pub returns-clause-slots : goal.returns-clause-slots
returns-clause-slots c =
    c.along.ensures.slots
    ∙ ap (λ (bs : List ℕ). entries c.self.inside.image.now (slots_in c.self.inside.image.now bs)) (c.copy.ensures ∙ c.self.invariant.0)
    ∙ ap (λ (image : List (List ℕ)). entries image (way_slots image)) c.self.view_is
