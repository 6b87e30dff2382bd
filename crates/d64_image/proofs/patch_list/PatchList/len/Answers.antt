use Rattle.std.proofs.Common.{◌≡◌, rules, sym, ap, length, ◌∙◌}
use Rattle.std.specs.Vec.{vec_len}
use Rattle.d64_image.proofs.PatchLists.{length-cut_blocks}
use Rattle.d64_image.proofs.patch_list.PatchList.len.Goals as goal

-- each number has its list
pub returns : goal.returns
returns c =
    let long : vec_len c.self.inside.lens ≡ length c.self.inside.lens.items = search rules in
    c.len.ensures ∙ long ∙ sym (length-cut_blocks c.self.inside.lens.items c.self.inside.blocks.items) ∙ ap length c.self.view_is
