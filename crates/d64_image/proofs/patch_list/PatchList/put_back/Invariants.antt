use Rattle.std.proofs.Common.{◌≡◌, take}
use Rattle.d64_image.specs.Patch.{restored_image}
use Rattle.d64_image.proofs.patch_list.PatchList.put_back.Given as goal

-- the blocks so far are written
abbrev pub invariant-loop-entry : goal.invariant-loop-entry
invariant-loop-entry l = l.image ≡ restored_image l.initial.image (take l.entry-index l.entry-items)
