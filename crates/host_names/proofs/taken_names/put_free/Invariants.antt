use Rattle.std.proofs.Common.{◌≡◌, ℕ, ◌<◌, ◌≤◌, true, take}
use Rattle.host_names.specs.HostName.{numbered_name, tail}
use Rattle.host_names.specs.TakenNames.{is_taken}
use Rattle.host_names.specs.Records.{names_of}
use Rattle.host_names.proofs.taken_names.put_free.Given as goal

abbrev pub invariant-loop-number : goal.invariant-loop-number
invariant-loop-number l =
    (take l.stem_len l.name.items ≡ take l.stem_len l.initial.name.items)
    × ((number : ℕ) → 1 ≤ number → number < l.number
    → is_taken (names_of l.names) (numbered_name (take l.stem_len l.initial.name.items) (tail l.ending l.is_part) number) ≡ true)
