use Rattle.std.proofs.Common.{◌≡◌, ◌≤◌, ◌+◌, false, ℕ, List, length}
use Rattle.std.specs.Io.KnownBytes.{Consumes}
use Rattle.host_storage.specs.Input.{input_limit}
use Rattle.script_text.specs.Parts.{HasCome}
use Rattle.script_text.proofs.parts.read_parts.Given as goal

-- the bytes so far are all that the reader lost, and the run has come through them
abbrev pub invariant-loop : goal.invariant-loop
invariant-loop g l = record {
  bytes : List ℕ;
  lost : Consumes (g.R.Read.remaining l.initial.input.reader.now) (g.R.Read.remaining l.input.reader.now) bytes;
  within : length bytes + l.room ≡ input_limit;
  each : l.counter ≤ length bytes;
  came : HasCome (g.P.PartHandler.has_come l.initial.handler l.handler) l.separator bytes;
  few : g.P.PartHandler.count l.handler ≤ length bytes;
  same : l.input.reader.ghost_name ≡ l.initial.input.reader.ghost_name;
  counted : l.input.reads ≡ l.counter;
  came_bytes : l.input.came ≡ length bytes;
  read : l.input.has_failed ≡ false;
}
