use Rattle.std.proofs.Common.{◌≡◌, ◌++◌, take}
use Rattle.std.specs.List.{flat_map}
use Rattle.cmd_check.specs.Doubts.{next_word}
use Rattle.cmd_check.proofs.doubt.push_next.Given as goal

abbrev pub invariant-loop-doubt : goal.invariant-loop-doubt
invariant-loop-doubt l = l.text.items ≡ l.initial.text.items ++ flat_map next_word (take l.doubt-index l.doubts)
