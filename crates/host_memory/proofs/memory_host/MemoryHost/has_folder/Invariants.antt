use Rattle.std.proofs.Common.{◌≡◌, None, map}
use Rattle.std.specs.Map.{lookup}
use Rattle.std.specs.Map.Iter.{deref_pair}
use Rattle.host_storage.specs.Folders.{folder_name}
use Rattle.host_memory.proofs.FilesOfEntries.{is_named}
use Rattle.host_memory.proofs.memory_host.MemoryHost.has_folder.Given as goal

-- no name so far is that of the folder
abbrev pub invariant-loop-name : goal.invariant-loop-name
invariant-loop-name l = lookup (is_named (folder_name l.path)) (map deref_pair l.yielded) ≡ None
