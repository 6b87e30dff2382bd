use Rattle.std.proofs.Common.{ℕ, List, ◌++◌, ap, ◌∙◌}
use Rattle.std.specs.List.{flat_map}
use Rattle.d64_map.specs.Map.{blocks}
use Rattle.d64_survey.specs.Owners.{is_shared}
use Rattle.d64_survey.specs.Faults.{where_so}
use Rattle.d64_survey.specs.declared.fault.Fault.TheVariants.{Shared}
use Rattle.d64_survey.proofs.fault_list.list_shared.Goals as goal

pub loop-block-init : goal.loop-block-init
unfolding blocks
loop-block-init c =
    ap (λ (bs : List ℕ). c.args.faults.now.items ++ flat_map (λ block. where_so (is_shared c.args.survey.now block) (Shared block)) bs)
    (c.into_iter-block-iterator.ensures.into_iter_gives ∙ c.all-block-items.ensures)
