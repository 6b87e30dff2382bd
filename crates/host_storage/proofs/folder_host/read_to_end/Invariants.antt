use Rattle.std.proofs.Common.{◌≤◌, vec_len}
use Rattle.std.specs.Io.KnownBytes.{Consumes}
use Rattle.host_storage.proofs.folder_host.read_to_end.Given as goal

-- the bytes so far keep within the limit, are as many as reads were made or more, and are what the
-- file has lost
abbrev pub invariant-loop : goal.invariant-loop
invariant-loop g l = record {
  within : vec_len l.bytes ≤ l.limit;
  each : l.counter ≤ vec_len l.bytes;
  read : Consumes (g.F.Read.remaining l.fn.file) (g.F.Read.remaining l.file) l.bytes.items;
}
