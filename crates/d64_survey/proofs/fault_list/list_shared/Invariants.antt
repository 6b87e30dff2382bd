use Rattle.std.proofs.Common.{◌≡◌, ◌++◌}
use Rattle.std.specs.List.{flat_map}
use Rattle.d64_survey.specs.Owners.{is_shared}
use Rattle.d64_survey.specs.Faults.{where_so, shared_faults}
use Rattle.d64_survey.specs.declared.fault.Fault.TheVariants.{Shared}
use Rattle.d64_survey.proofs.fault_list.list_shared.Given as goal

abbrev pub invariant-loop-block : goal.invariant-loop-block
invariant-loop-block l =
    l.faults.items ++ flat_map (λ block. where_so (is_shared l.survey block) (Shared block)) l.block-iterator ≡ l.fn.faults.items ++ shared_faults l.survey
