use Rattle.std.proofs.Common.{◌≡◌, drop}
use Rattle.std.specs.Prelude.{fold}
use Rattle.std.specs.FinSet as set
use Rattle.d64_effects.specs.Write.{blocks_without}
use Rattle.d64_dos.proofs.undelete.remove_all.Given as goal

abbrev pub invariant-loop-block : goal.invariant-loop-block
invariant-loop-block l = fold set.remove l.free (drop l.block-index l.blocks) ≡ blocks_without l.fn.free l.blocks
