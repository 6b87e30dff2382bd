-- The bytes so far are all that the reader lost, and each turn has made one read.
use Rattle.std.proofs.Common.{◌≡◌, ◌≤◌, false, vec_len}
use Rattle.std.specs.Io.KnownBytes.{Consumes}
use Rattle.host_storage.specs.Input.{input_limit}
use Rattle.script_text.proofs.script.read_input.Given as goal

abbrev pub invariant-loop : goal.invariant-loop
invariant-loop g l = record {
  lost : Consumes (g.R.Read.remaining l.initial.input.reader.now) (g.R.Read.remaining l.input.reader.now) l.bytes.items;
  bounded : vec_len l.bytes ≤ input_limit;
  same : l.input.reader.ghost_name ≡ l.initial.input.reader.ghost_name;
  counted : l.input.reads ≡ l.counter;
  came : l.input.came ≡ vec_len l.bytes;
  unfailed : l.input.has_failed ≡ false;
}
