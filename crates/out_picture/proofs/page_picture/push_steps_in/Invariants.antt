use Rattle.std.proofs.Common.{◌≡◌, ◌++◌}
use Rattle.std.specs.List.{flat_map}
use Rattle.out_picture.specs.PagePicture.{step_in, steps_in}
use Rattle.out_picture.proofs.page_picture.push_steps_in.Given as goal

abbrev pub invariant-loop-block : goal.invariant-loop-block
invariant-loop-block l =
    l.out.items ++ flat_map (step_in l.inspection.image l.region l.steps) l.block-iterator
    ≡ l.initial.out.items ++ steps_in l.inspection.image l.region l.steps
