use Rattle.std.proofs.Common.{ℕ, List, ◌++◌, ◌≤◌, length}
use Rattle.cbm_text.specs.declared.mode.Mode.TheVariants.{Free}
use Rattle.cbm_text.specs.Causes.{StopsAfter}
use Rattle.cbm_text.proofs.codes.uncrunched.Given as goal

-- if what is left stops, the whole does
abbrev pub invariant-loop-mode : goal.invariant-loop-mode
invariant-loop-mode l = record {
  done : List ℕ;
  stops : (codes rest : List ℕ) → StopsAfter l.mode l.left codes rest → StopsAfter Free l.bytes (done ++ codes) rest;
  shorter : length l.left ≤ length l.bytes;
}

abbrev pub decreases-loop-mode : goal.decreases-loop-mode
decreases-loop-mode l = length l.left
