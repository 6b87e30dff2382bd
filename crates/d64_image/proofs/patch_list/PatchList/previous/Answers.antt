use Rattle.std.proofs.Common.{◌≡◌, ◌<◌, ◌+◌, ◌-◌, List, length, sym, ap, ◌∙◌, arith, rules}
use Rattle.std.specs.Vec.{vec_len}
use Rattle.d64_image.specs.Patch.{Kept}
use Rattle.d64_image.specs.PatchList.{blocks_before}
use Rattle.d64_image.proofs.PatchLists.{length-cut_blocks, before-next}
use Rattle.d64_image.proofs.patch_list.PatchList.previous.Goals as goal

pub index-requires : goal.index-requires
index-requires c =
    let long : vec_len c.self.inside.lens ≡ length c.self.inside.lens.items = search rules in
    let count = length-cut_blocks c.self.inside.lens.items c.self.inside.blocks.items in
    let all = ap (λ (xs : List Kept). length xs) c.self.view_is in
    let within = c.requires.within in
    omega arith

-- the blocks that come before the place include the patch's own
pub overflow_sub-result : goal.overflow_sub-result
overflow_sub-result c =
    let before : c.args.place.number - 1 < length c.args.self.now = omega (arith, c.requires.within.0, c.requires.within.1) in
    let more = before-next c.self.inside.lens.items c.self.inside.blocks.items c.args.self.now (c.args.place.number - 1) c.index.result.now c.self.invariant.0 c.self.view_is before in
    let same : c.args.place.number - 1 + 1 ≡ c.args.place.number = omega (arith, c.requires.within.0) in
    let there = c.requires.place ∙ ap (blocks_before c.args.self.now) (sym same) in
    let len = c.from.ensures ∙ c.index.ensures in
    omega arith

pub returns-clause-blocks : goal.returns-clause-blocks
returns-clause-blocks c =
    let before : c.args.place.number - 1 < length c.args.self.now = omega (arith, c.requires.within.0, c.requires.within.1) in
    let more = before-next c.self.inside.lens.items c.self.inside.blocks.items c.args.self.now (c.args.place.number - 1) c.index.result.now c.self.invariant.0 c.self.view_is before in
    let same : c.args.place.number - 1 + 1 ≡ c.args.place.number = omega (arith, c.requires.within.0) in
    let there = c.requires.place ∙ ap (blocks_before c.args.self.now) (sym same) in
    let len = c.from.ensures ∙ c.index.ensures in
    omega arith
