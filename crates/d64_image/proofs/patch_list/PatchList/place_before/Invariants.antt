use Rattle.std.proofs.Common.{◌≡◌, take}
use Rattle.d64_image.specs.PatchList.{total}
use Rattle.d64_image.proofs.patch_list.PatchList.place_before.Given as goal

-- the blocks of the records so far
abbrev pub invariant-loop-len : goal.invariant-loop-len
invariant-loop-len l = l.blocks ≡ total (take l.len-index l.lens)
