use Rattle.std.proofs.Common.{ℕ, ◌<◌}
use Rattle.d64_files.specs.Slot.{cell, HasKind}
use Rattle.d64_files.proofs.slots.kinds_are_known.Given as goal

abbrev pub invariant-loop-index : goal.invariant-loop-index
invariant-loop-index l = (k : ℕ) → k < l.index → HasKind (cell l.block k)
