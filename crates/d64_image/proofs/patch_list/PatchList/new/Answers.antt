use Rattle.d64_image.proofs.PatchLists.{none-are_records, cut_blocks-none}
use Rattle.d64_image.proofs.patch_list.PatchList.new.Goals as goal

pub invariant_of-result : goal.invariant_of-result
invariant_of-result c = none-are_records c.new.result.items c.new-2.result.items c.new.ensures.items c.new-2.ensures.items

pub returns : goal.returns
returns c = cut_blocks-none c.new.result.items c.new-2.result.items c.new.ensures.items
