use Rattle.std.proofs.Common.{◌≡◌, ◌++◌, take}
use Rattle.std.specs.List.{flat_map}
use Rattle.d64_map.specs.Track.{blocks_on}
use Rattle.out_picture.specs.States.{state_of_block, state_mark}
use Rattle.cmd_map.proofs.text.push_row.Given as goal

abbrev pub invariant-loop-sector : goal.invariant-loop-sector
invariant-loop-sector l = l.out.items ≡ l.initial.out.items ++ flat_map (λ block. state_mark (state_of_block l.inspection block)) (take l.sector (blocks_on l.number))
