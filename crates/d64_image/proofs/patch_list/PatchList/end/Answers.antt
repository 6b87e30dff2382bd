use Rattle.std.proofs.Common.{◌≡◌, List, length, sym, ap, ◌∙◌, arith, rules}
use Rattle.std.proofs.lemmas.List.{take_all}
use Rattle.d64_image.specs.Patch.{Kept}
use Rattle.d64_image.specs.PatchList.{total, blocks_before}
use Rattle.d64_image.proofs.PatchLists.{length-cut_blocks, before-cut_blocks}
use Rattle.d64_image.proofs.patch_list.PatchList.end.Goals as goal

pub returns-clause-number : goal.returns-clause-number
returns-clause-number c =
    let count = length-cut_blocks c.self.inside.lens.items c.self.inside.blocks.items in
    let all = ap (λ (xs : List Kept). length xs) c.self.view_is in
    let long : c.len.result ≡ length c.self.inside.lens.items = search rules in
    omega arith

-- the patches have all of the blocks
pub returns-clause-blocks : goal.returns-clause-blocks
returns-clause-blocks c =
    let count = length-cut_blocks c.self.inside.lens.items c.self.inside.blocks.items in
    let all = ap (λ (xs : List Kept). length xs) c.self.view_is in
    let place : c.len-2.result ≡ length c.self.inside.blocks.items = search rules in
    place ∙ sym c.self.invariant.0
    ∙ ap total (sym (take_all (length c.args.self.now) c.self.inside.lens.items (omega arith)))
    ∙ sym (before-cut_blocks c.self.inside.lens.items c.self.inside.blocks.items (length c.args.self.now) c.self.invariant.0)
    ∙ ap (λ (patches : List Kept). blocks_before patches (length c.args.self.now)) c.self.view_is
