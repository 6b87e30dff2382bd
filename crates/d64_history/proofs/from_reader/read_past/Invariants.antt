use Rattle.std.proofs.Common.{◌≡◌, ◌+◌, ◌≤◌, List, ℕ, length}
use Rattle.std.specs.Io.KnownBytes.{Consumes}
use Rattle.d64_image.specs.Disk.{AreBytes}
use Rattle.d64_history.proofs.from_reader.read_past.Given as goal

-- what was read so far, of as many bytes as reads were made or more, and the
-- note says what it said before
abbrev pub invariant-loop : goal.invariant-loop
invariant-loop g l = (more : List ℕ) × Consumes (g.R.Read.remaining l.fn.reader) (g.R.Read.remaining l.reader) more × AreBytes more × (length more + l.left ≡ l.limit) × (l.counter ≤ length more) × (l.note.has_failed ≡ l.fn.note.has_failed)
