use Rattle.std.proofs.Common.{ℕ, List, ap, ◌∙◌}
use Rattle.d64_survey.specs.Owners.{directory_way}
use Rattle.d64_survey.proofs.survey.Survey.directory_end.Goals as goal

pub returns : goal.returns
returns c = c.self.invariant.1 ∙ ap (λ (image : List (List ℕ)). (directory_way image).1) c.self.view_is
