use Rattle.std.proofs.Common.{◌≡◌, ◌++◌, take}
use Rattle.std.specs.List.{flat_map}
use Rattle.out_files.specs.LossWords.{loss_word}
use Rattle.out_files.specs.FileRow.{after_space}
use Rattle.out_files.proofs.spaced.push_losses.Given as goal

abbrev pub invariant-loop-loss : goal.invariant-loop-loss
invariant-loop-loss l = l.text.items ≡ l.initial.text.items ++ flat_map (λ loss. after_space (loss_word loss)) (take l.loss-index l.losses)
