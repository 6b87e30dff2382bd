use Rattle.std.proofs.Common.{sym, subst}
use Rattle.d64_image.specs.Patch.{HaveBlocks, IsPatch, RisesBetween}
use Rattle.d64_image.proofs.KeptBlocks.{no_blocks}
use Rattle.d64_image.proofs.patch.Patch.new.Goals as goal

pub invariant_of-result : goal.invariant_of-result
unfolding RisesBetween
invariant_of-result c = (subst IsPatch (sym c.new.ensures.items) tt, subst HaveBlocks (sym c.new.ensures.items) no_blocks)
