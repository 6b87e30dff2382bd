use Rattle.std.proofs.Common.{subst}
use Rattle.std.specs.List.{All}
use Rattle.d64_image.specs.Patch.{HaveBlocks}
use Rattle.d64_image.proofs.patch_list.PatchList.known_patches.Goals as goal

pub returns : goal.returns
returns c = subst (All HaveBlocks) c.self.view_is c.self.invariant.2
