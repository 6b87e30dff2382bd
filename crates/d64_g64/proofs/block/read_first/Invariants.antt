use Rattle.std.proofs.Common.{◌≡◌, drop}
use Rattle.std.specs.List.{find}
use Rattle.d64_g64.specs.Starts.{start_pairs}
use Rattle.d64_g64.specs.Headers.{names_block}
use Rattle.d64_g64.proofs.block.read_first.Given as goal

abbrev pub invariant-loop-index : goal.invariant-loop-index
invariant-loop-index l =
    find (names_block l.track l.number l.sector) (start_pairs l.track) ≡ find (names_block l.track l.number l.sector) (drop l.index (start_pairs l.track))
