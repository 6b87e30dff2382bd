use Rattle.std.proofs.Common.{◌≡◌, ℕ, List, ◌++◌, drop, map}
use Rattle.std.specs.Prelude.{flat_map}
use Rattle.std.specs.Io.KnownBytes.{Appends}
use Rattle.script_advice.specs.Advice.{piece_of, pieces, piece_bytes}
use Rattle.script_advice.proofs.refusal.write_advice.Given as goal

-- the first pieces are written
abbrev pub invariant-loop-piece : goal.invariant-loop-piece
invariant-loop-piece g l = record {
  done : List ℕ;
  split : done ++ flat_map (piece_bytes l.parts) (map piece_of (drop l.piece-index l.piece-items)) ≡ flat_map (piece_bytes l.fn.parts) (pieces l.fn.advice);
  written : Appends (g.W.Write.contents l.fn.output.writer.now) (g.W.Write.contents l.output.writer.now) (l.fn.start ++ done);
  unfailed : l.output.has_failed ≡ l.fn.output.has_failed;
  same : l.output.writer.ghost_name ≡ l.fn.output.writer.ghost_name;
  parts : l.parts ≡ l.fn.parts;
}
