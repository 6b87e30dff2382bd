use Rattle.std.proofs.Common.{◌≡◌, ◌++◌, take}
use Rattle.std.specs.List.{flat_map}
use Rattle.d64_history.specs.SessionFile.{block_file}
use Rattle.d64_history.proofs.keeping.put_blocks.Given as goal

-- the blocks so far are in the file
abbrev pub invariant-loop-entry : goal.invariant-loop-entry
invariant-loop-entry l = l.file.items ≡ l.initial.file.items ++ flat_map block_file (take l.entry-index l.blocks)
