use Rattle.std.proofs.Common.{◌≡◌, ◌++◌, take}
use Rattle.std.specs.Prelude.{codes}
use Rattle.std.specs.List.{flat_map}
use Rattle.out_files.specs.DeletedTable.{loss_text}
use Rattle.out_files.proofs.deleted_table.push_more_losses.Given as goal

abbrev pub invariant-loop-loss : goal.invariant-loop-loss
invariant-loop-loss l = l.out.items ≡ l.initial.out.items ++ flat_map (λ other. codes ", " ++ loss_text l.survey l.row other) (take l.loss-index l.losses)
