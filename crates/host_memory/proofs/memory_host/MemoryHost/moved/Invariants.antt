use Rattle.std.proofs.Common.{◌≡◌, map}
use Rattle.std.specs.FinMap.{empty}
use Rattle.std.specs.List.{fold}
use Rattle.std.specs.Map.Iter.{deref_pair}
use Rattle.host_memory.specs.MemoryHost.{files_of_entries}
use Rattle.host_memory.proofs.Moves.{as_file, moved_in}
use Rattle.host_memory.proofs.memory_host.MemoryHost.moved.Given as goal

-- the entries so far have their new names
abbrev pub invariant-loop-name : goal.invariant-loop-name
invariant-loop-name l = files_of_entries l.entries.entries ≡ fold (moved_in l.fn.from l.fn.to) empty (map as_file (map deref_pair l.yielded))
