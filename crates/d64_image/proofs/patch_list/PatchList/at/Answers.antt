use Rattle.std.proofs.Common.{sym, [], ◌≡◌, ℕ, List, length, take, drop, ap, ap₂, ◌∙◌, subst, arith, rules}
use Rattle.std.proofs.lemmas.List.{length-drop}
use Rattle.std.specs.Vec.{vec_len}
use Rattle.std.proofs.lemmas.List.Elements.{All-get_or}
use Rattle.std.specs.List.{All}
use Rattle.d64_image.specs.Patch.{Kept, IsPatch}
use Rattle.d64_image.proofs.PatchLists.{length-cut_blocks, at-cut_blocks, end-cut_blocks}
use Rattle.d64_image.proofs.patch_list.PatchList.at.Goals as goal

-- the record's blocks end within those of all
pub split_at-requires : goal.split_at-requires
split_at-requires c =
    let blocks = ap (λ (xs : Kept). length xs) c.deref.ensures.value in
    let ends = end-cut_blocks c.self.inside.lens.items c.self.inside.blocks.items c.args.self.now c.args.place.number 0 c.self.invariant.0 c.self.view_is c.requires.within in
    let place = c.requires.place in
    omega arith

pub index-requires : goal.index-requires
index-requires c =
    let long : vec_len c.self.inside.lens ≡ length c.self.inside.lens.items = search rules in
    let count = length-cut_blocks c.self.inside.lens.items c.self.inside.blocks.items in
    let all = ap (λ (xs : List Kept). length xs) c.self.view_is in
    let within = c.requires.within in
    omega arith

pub split_at-requires-2 : goal.split_at-requires-2
split_at-requires-2 c =
    let blocks = ap (λ (xs : Kept). length xs) c.deref.ensures.value in
    let ends = end-cut_blocks c.self.inside.lens.items c.self.inside.blocks.items c.args.self.now c.args.place.number c.index.result.now c.self.invariant.0 c.self.view_is c.requires.within in
    let len = c.from.ensures ∙ c.index.ensures in
    let place = c.requires.place in
    let rest : length c.split_at.result.1.now ≡ length (drop c.args.place.blocks c.deref.result.now) = search rules in
    let left = length-drop c.args.place.blocks c.deref.result.now in
    omega arith

pub returns-clause-kept : goal.returns-clause-kept
returns-clause-kept c =
    c.split_at-2.ensures.front
    ∙ ap₂ (λ (n : ℕ) (xs : Kept). take n xs) (c.from.ensures ∙ c.index.ensures)
    (c.split_at.ensures.back ∙ ap₂ (λ (n : ℕ) (xs : Kept). drop n xs) c.requires.place c.deref.ensures.value)
    ∙ at-cut_blocks c.self.inside.lens.items c.self.inside.blocks.items c.args.self.now c.args.place.number c.index.result.now c.self.invariant.0 c.self.view_is c.requires.within

-- as those of each patch
pub returns-clause-ascending : goal.returns-clause-ascending
returns-clause-ascending c =
    let rise : All IsPatch c.args.self.now = subst (All IsPatch) c.self.view_is c.self.invariant.1 in
    subst IsPatch (sym (returns-clause-kept c)) (All-get_or IsPatch c.args.self.now c.args.place.number [] c.requires.within rise)
