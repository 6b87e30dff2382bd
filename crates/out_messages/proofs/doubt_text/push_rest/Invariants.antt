use Rattle.std.proofs.Common.{◌≡◌, ◌++◌, take}
use Rattle.std.specs.List.{flat_map}
use Rattle.out_messages.specs.DoubtText.{next_doubt}
use Rattle.out_messages.proofs.doubt_text.push_rest.Given as goal

abbrev pub invariant-loop-doubt : goal.invariant-loop-doubt
invariant-loop-doubt l = l.out.items ≡ l.initial.out.items ++ flat_map (next_doubt l.all.image) (take l.doubt-index l.doubts)
