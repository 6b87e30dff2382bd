use Rattle.std.proofs.Common.{sym, subst}
use Rattle.d64_image.specs.Patch.{HaveBlocks, IsPatch, RisesBetween}
use Rattle.d64_image.proofs.KeptBlocks.{no_blocks}
use Rattle.d64_image.proofs.patch.Patch.clear.Goals as goal

pub invariant_of-self : goal.invariant_of-self
unfolding RisesBetween
invariant_of-self c = (subst IsPatch (sym c.clear.ensures.items) tt, subst HaveBlocks (sym c.clear.ensures.items) no_blocks)
