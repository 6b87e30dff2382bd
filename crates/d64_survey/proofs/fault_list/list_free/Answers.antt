use Rattle.std.proofs.Common.{ℕ, ◌&&◌, List, ◌++◌, ap, ◌∙◌}
use Rattle.std.specs.List.{flat_map}
use Rattle.std.specs.Ordering.{nat_cmp}
use Rattle.std.specs.FinSet as set
use Rattle.d64_map.specs.Map.{blocks, free_blocks}
use Rattle.d64_survey.specs.Owners.{is_owned}
use Rattle.d64_survey.specs.Faults.{where_so}
use Rattle.d64_survey.specs.declared.fault.Fault.{Fault}
use Rattle.d64_survey.specs.declared.fault.Fault.TheVariants.{MarkedFree}
use Rattle.d64_survey.proofs.fault_list.list_free.Goals as goal

-- the faults of blocks, for a set of free ones
abbrev marked : List (List ℕ) → List ℕ → set.FinSet nat_cmp → List Fault
marked image bs free = flat_map (λ block. where_so (is_owned image block && set.contains free block) (MarkedFree block)) bs

pub loop-block-init : goal.loop-block-init
unfolding blocks
loop-block-init c =
    let image = c.args.survey.now in
    let before = c.args.faults.now.items in
    ap (λ (bs : List ℕ). before ++ marked image bs c.free_set-free.result) (c.into_iter-block-iterator.ensures.into_iter_gives ∙ c.all-block-items.ensures)
    ∙ ap (λ (free : set.FinSet nat_cmp). before ++ marked image blocks free) (c.free_set-free.ensures ∙ ap free_blocks c.image.ensures)
