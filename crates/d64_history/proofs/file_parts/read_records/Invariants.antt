use Rattle.std.proofs.Common.{◌≡◌, ◌++◌, length}
use Rattle.std.specs.List.{flat_map}
use Rattle.d64_image.specs.Disk.{AreBytes}
use Rattle.d64_history.specs.SessionFile.{record_file}
use Rattle.d64_history.specs.Resuming.{IsEndOf, IsStarted, start_seen}
use Rattle.d64_history.proofs.file_parts.read_records.Given as goal

-- the records so far, and the bytes after them
abbrev pub invariant-loop : goal.invariant-loop
invariant-loop l = record {
  started : IsStarted l.parts;
  same : start_seen l.parts ≡ start_seen l.initial.parts;
  text : flat_map record_file l.initial.parts.records ++ l.bytes ≡ flat_map record_file l.parts.records ++ l.rest;
  counted : length l.parts.records ≡ l.counter;
  bytes : AreBytes l.rest;
  end : IsEndOf l.rest l.bytes;
}
