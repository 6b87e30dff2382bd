use Rattle.std.proofs.Common.{◌≡◌, ◌++◌, drop}
use Rattle.d64_g64.specs.Starts.{start_pairs}
use Rattle.d64_g64.specs.SoundNames.{names_by}
use Rattle.d64_g64.proofs.naming.add_names.Given as goal

abbrev pub invariant-loop-index : goal.invariant-loop-index
invariant-loop-index l =
    l.names.items ++ names_by l.id l.track (drop l.index (start_pairs l.track)) ≡ l.initial.names.items ++ names_by l.id l.track (start_pairs l.track)
