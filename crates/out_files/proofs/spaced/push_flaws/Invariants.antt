use Rattle.std.proofs.Common.{◌≡◌, ◌++◌, take}
use Rattle.std.specs.List.{flat_map}
use Rattle.out_files.specs.FlawWords.{flaw_word}
use Rattle.out_files.specs.FileRow.{after_space}
use Rattle.out_files.proofs.spaced.push_flaws.Given as goal

abbrev pub invariant-loop-flaw : goal.invariant-loop-flaw
invariant-loop-flaw l = l.text.items ≡ l.initial.text.items ++ flat_map (λ flaw. after_space (flaw_word flaw)) (take l.flaw-index l.flaws)
