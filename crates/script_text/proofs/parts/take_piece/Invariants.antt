use Rattle.std.proofs.Common.{◌≡◌, ◌≤◌, ◌+◌, ℕ, List, ◌++◌, length}
use Rattle.script_text.specs.Parts.{HasCome}
use Rattle.script_text.proofs.parts.take_piece.Given as goal

-- a first part of the piece has come
abbrev pub invariant-loop-part : goal.invariant-loop-part
invariant-loop-part g l = record {
  done : List ℕ;
  split : done ++ l.rest ≡ l.piece;
  few : g.P.PartHandler.count l.handler ≤ g.P.PartHandler.count l.initial.handler + length done;
  came : (first : g.row.P.Denot) (before : List ℕ) → g.P.PartHandler.separator first ≡ l.separator
      → HasCome (g.P.PartHandler.has_come first l.initial.handler) l.separator before
      → HasCome (g.P.PartHandler.has_come first l.handler) l.separator (before ++ done);
}

abbrev pub decreases-loop-part : goal.decreases-loop-part
decreases-loop-part g l = length l.rest
