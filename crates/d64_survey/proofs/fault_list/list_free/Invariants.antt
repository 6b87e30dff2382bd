use Rattle.std.proofs.Common.{◌≡◌, ◌++◌, ◌&&◌}
use Rattle.std.specs.List.{flat_map}
use Rattle.std.specs.FinSet as set
use Rattle.d64_survey.specs.Owners.{is_owned}
use Rattle.d64_survey.specs.Faults.{where_so, free_faults}
use Rattle.d64_survey.specs.declared.fault.Fault.TheVariants.{MarkedFree}
use Rattle.d64_survey.proofs.fault_list.list_free.Given as goal

abbrev pub invariant-loop-block : goal.invariant-loop-block
invariant-loop-block l =
    l.faults.items ++ flat_map (λ block. where_so (is_owned l.survey block && set.contains l.free block) (MarkedFree block)) l.block-iterator
    ≡ l.fn.faults.items ++ free_faults l.survey
