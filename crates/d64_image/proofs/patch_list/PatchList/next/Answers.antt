use Rattle.std.proofs.Common.{◌≡◌, List, length, ap, ◌∙◌, arith, rules}
use Rattle.std.specs.Vec.{vec_len}
use Rattle.d64_image.specs.Patch.{Kept}
use Rattle.d64_image.proofs.PatchLists.{length-cut_blocks, before-next, end-cut_blocks}
use Rattle.d64_image.proofs.patch_list.PatchList.next.Goals as goal

pub index-requires : goal.index-requires
index-requires c =
    let long : vec_len c.self.inside.lens ≡ length c.self.inside.lens.items = search rules in
    let count = length-cut_blocks c.self.inside.lens.items c.self.inside.blocks.items in
    let all = ap (λ (xs : List Kept). length xs) c.self.view_is in
    let within = c.requires.within in
    omega arith

pub overflow_add-result-2 : goal.overflow_add-result-2
overflow_add-result-2 c =
    let long : vec_len c.self.inside.lens ≡ length c.self.inside.lens.items = search rules in
    let count = length-cut_blocks c.self.inside.lens.items c.self.inside.blocks.items in
    let all = ap (λ (xs : List Kept). length xs) c.self.view_is in
    let within = c.requires.within in
    omega arith

-- the patch ends within the blocks of all
pub overflow_add-result : goal.overflow_add-result
overflow_add-result c =
    let ends = end-cut_blocks c.self.inside.lens.items c.self.inside.blocks.items c.args.self.now c.args.place.number c.index.result.now c.self.invariant.0 c.self.view_is c.requires.within in
    let long : vec_len c.self.inside.blocks ≡ length c.self.inside.blocks.items = search rules in
    let len = c.from.ensures ∙ c.index.ensures in
    let place = c.requires.place in
    omega arith

pub returns-clause-blocks : goal.returns-clause-blocks
returns-clause-blocks c =
    let more = before-next c.self.inside.lens.items c.self.inside.blocks.items c.args.self.now c.args.place.number c.index.result.now c.self.invariant.0 c.self.view_is c.requires.within in
    let len = c.from.ensures ∙ c.index.ensures in
    let place = c.requires.place in
    omega arith
