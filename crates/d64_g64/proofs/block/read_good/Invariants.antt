use Rattle.std.proofs.Common.{◌≡◌, drop}
use Rattle.std.specs.List.{find}
use Rattle.d64_g64.specs.Starts.{start_pairs}
use Rattle.d64_g64.specs.Blocks.{names_readable}
use Rattle.d64_g64.proofs.block.read_good.Given as goal

abbrev pub invariant-loop-index : goal.invariant-loop-index
invariant-loop-index l =
    find (names_readable l.id l.track l.number l.sector) (start_pairs l.track) ≡ find (names_readable l.id l.track l.number l.sector) (drop l.index (start_pairs l.track))
