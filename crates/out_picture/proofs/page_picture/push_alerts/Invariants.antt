use Rattle.std.proofs.Common.{◌≡◌, ◌++◌}
use Rattle.std.specs.List.{flat_map}
use Rattle.out_picture.specs.PagePicture.{alert, alerts}
use Rattle.out_picture.proofs.page_picture.push_alerts.Given as goal

abbrev pub invariant-loop-block : goal.invariant-loop-block
invariant-loop-block l = l.out.items ++ flat_map (alert l.inspection) l.block-iterator ≡ l.initial.out.items ++ alerts l.inspection
