use Rattle.std.proofs.Common.{◌≡◌, ◌+◌, ℕ, List, length, take, refl, sym, ap, ◌∙◌, arith, rules}
use Rattle.std.proofs.lemmas.List.{take_all}
use Rattle.std.specs.Vec.{vec_len}
use Rattle.d64_image.specs.Patch.{Kept}
use Rattle.d64_image.specs.PatchList.{total, blocks_before}
use Rattle.d64_image.proofs.PatchLists.{length-cut_blocks, before-cut_blocks, total-more, total-take}
use Rattle.d64_image.proofs.patch_list.PatchList.place_before.Goals as goal

-- each record has a number of its blocks
pub split_at-requires : goal.split_at-requires
split_at-requires c =
    let count = length-cut_blocks c.self.inside.lens.items c.self.inside.blocks.items in
    let all = ap (λ (xs : List Kept). length xs) c.self.view_is in
    let lens = ap (λ (xs : List ℕ). length xs) c.deref.ensures.value in
    let within = c.requires in
    omega arith

pub loop-len-init : goal.loop-len-init
unfolding total
loop-len-init c = refl

-- the sum fits, as all blocks do
pub overflow_add-blocks : goal.overflow_add-blocks
overflow_add-blocks c =
    let lens = c.split_at.result.0.now in
    let more = total-more lens c.loop-len.len-index 0 c.loop-len-test.true in
    let some = total-take lens (c.loop-len.len-index + 1) in
    let first : total lens ≡ total (take c.args.number c.self.inside.lens.items) = ap total (c.split_at.ensures.front ∙ ap (λ (xs : List ℕ). take c.args.number xs) c.deref.ensures.value) in
    let less = total-take c.self.inside.lens.items c.args.number in
    let count = c.self.invariant.0 in
    let long : vec_len c.self.inside.blocks ≡ length c.self.inside.blocks.items = search rules in
    let len = c.from-blocks.ensures in
    let place = c.loop-len.invariant in
    omega arith

pub loop-len-preserved : goal.loop-len-preserved
loop-len-preserved c =
    let more = total-more c.split_at.result.0.now c.loop-len.len-index 0 c.loop-len-test.true in
    let len = c.from-blocks.ensures in
    let place = c.loop-len.invariant in
    omega arith

pub returns-clause-blocks : goal.returns-clause-blocks
returns-clause-blocks c =
    let lens = c.split_at.result.0.now in
    c.loop-len.invariant
    ∙ ap total (take_all c.loop-len.len-index lens c.loop-len-test.false ∙ c.split_at.ensures.front ∙ ap (λ (xs : List ℕ). take c.args.number xs) c.deref.ensures.value)
    ∙ sym (before-cut_blocks c.self.inside.lens.items c.self.inside.blocks.items c.args.number c.self.invariant.0)
    ∙ ap (λ (records : List Kept). blocks_before records c.args.number) c.self.view_is
