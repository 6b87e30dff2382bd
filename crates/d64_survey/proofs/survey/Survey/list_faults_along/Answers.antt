use Rattle.std.proofs.Common.{ℕ, List, ◌++◌, ap, ◌∙◌}
use Rattle.d64_survey.specs.Faults.{count_faults}
use Rattle.d64_survey.proofs.FaultLists.{all_listed}
use Rattle.d64_survey.proofs.survey.Survey.list_faults_along.Goals as goal

pub returns : goal.returns
returns c =
    all_listed c.args.self.now _ _ _ _ _ _ _ c.clear.ensures.items
    (c.in_ok-list_counts.ensures ∙ ap (λ (image : List (List ℕ)). c.clear.new.self.items ++ count_faults image) c.image.ensures)
    c.in_ok-list_directory.ensures c.in_ok-list_kinds.ensures c.in_ok-list_files.ensures c.in_ok-list_shared.ensures c.in_ok-list_free.ensures
