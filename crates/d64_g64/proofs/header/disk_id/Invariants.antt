use Rattle.std.proofs.Common.{◌≡◌, ◌&&◌, drop}
use Rattle.std.specs.List.{find}
use Rattle.d64_g64.specs.Starts.{start_pairs}
use Rattle.d64_g64.specs.Headers.{names_block, is_good_header}
use Rattle.d64_g64.proofs.header.disk_id.Given as goal

abbrev pub invariant-loop-index : goal.invariant-loop-index
invariant-loop-index l =
    find (λ pair. names_block l.track 18 0 pair && is_good_header l.track pair) (start_pairs l.track) ≡ find (λ pair. names_block l.track 18 0 pair && is_good_header l.track pair) (drop l.index (start_pairs l.track))
