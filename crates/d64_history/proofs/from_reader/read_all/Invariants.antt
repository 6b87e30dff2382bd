use Rattle.std.proofs.Common.{◌≡◌, ◌+◌, ◌≤◌, length}
use Rattle.std.specs.Io.KnownBytes.{Consumes}
use Rattle.d64_image.specs.Disk.{AreBytes}
use Rattle.d64_history.proofs.from_reader.read_all.Given as goal

-- what was given so far is what was read, of as many bytes as reads were made or more, and the
-- note says what it said before
abbrev pub invariant-loop : goal.invariant-loop
invariant-loop g l = record {
  read : Consumes (g.R.Read.remaining l.fn.reader) (g.R.Read.remaining l.reader) l.file;
  bytes : AreBytes l.file;
  left : length l.file + l.left ≡ l.limit;
  each : l.counter ≤ length l.file;
  noted : l.note.has_failed ≡ l.fn.note.has_failed;
}
