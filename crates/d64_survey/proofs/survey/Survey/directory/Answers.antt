use Rattle.std.proofs.Common.{ℕ, List, ap, ◌∙◌}
use Rattle.d64_survey.specs.Owners.{directory_way}
use Rattle.d64_survey.proofs.survey.Survey.directory.Goals as goal

pub returns-clause-value : goal.returns-clause-value
returns-clause-value c = c.as_slice.ensures.value ∙ c.self.invariant.0 ∙ ap (λ (image : List (List ℕ)). (directory_way image).0) c.self.view_is
