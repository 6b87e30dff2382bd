use Rattle.std.proofs.Common.{◌≡◌, ◌++◌, take}
use Rattle.std.specs.List.{flat_map}
use Rattle.d64_image.specs.PatchList.{blocks_before}
use Rattle.d64_history.specs.SessionFile.{record_file}
use Rattle.d64_history.proofs.keeping.put_records.Given as goal

-- the records so far are in the file
abbrev pub invariant-loop : goal.invariant-loop
invariant-loop l = record {
  file : l.file.items ≡ l.initial.file.items ++ flat_map record_file (take l.counter l.records);
  number : l.place.number ≡ l.counter;
  blocks : l.place.blocks ≡ blocks_before l.records l.place.number;
}
