use Rattle.std.proofs.Common.{◌≡◌, List, [], ◌++◌, length, take, drop, get_or, set, sym, ap, ap₂, ◌∙◌, subst, arith, rules}
use Rattle.std.proofs.lemmas.List.{length-drop}
use Rattle.std.proofs.lemmas.List.Elements.{All-set, All-get_or}
use Rattle.std.specs.List.{All}
use Rattle.std.specs.Vec.{vec_len}
use Rattle.d64_image.specs.declared.block.TheConstants.{BLOCKS}
use Rattle.d64_image.specs.Patch.{Kept, HaveBlocks, IsPatch, IsPatchOf, restored_image, taken_blocks}
use Rattle.d64_image.specs.PatchList.{cut_blocks, blocks_before}
use Rattle.d64_image.proofs.KeptBlocks.{blocks-taken_blocks}
use Rattle.d64_image.proofs.Patches.{rises-taken_blocks}
use Rattle.d64_image.proofs.PatchLists.{length-cut_blocks, at-cut_blocks, end-cut_blocks, swapped-is, swapped-long, written_over, parts-are}
use Rattle.d64_image.proofs.patch_list.PatchList.swap.Goals as goal
use Rattle.d64_image.proofs.patch_list.PatchList.swap.Goals.{After-self-3-1}

pub index-requires : goal.index-requires
index-requires c =
    let long : vec_len c.self.inside.lens ≡ length c.self.inside.lens.items = search rules in
    let count = length-cut_blocks c.self.inside.lens.items c.self.inside.blocks.items in
    let all = ap (λ (xs : List Kept). length xs) c.self.view_is in
    let within = c.requires.within in
    omega arith

pub split_at_mut-rest-requires : goal.split_at_mut-rest-requires
split_at_mut-rest-requires c =
    let blocks = ap (λ (xs : Kept). length xs) c.deref_mut.ensures.value in
    let ends = end-cut_blocks c.self.inside.lens.items c.self.inside.blocks.items c.args.self.now c.args.place.number 0 c.self.invariant.0 c.self.view_is c.requires.within in
    let place = c.requires.place in
    omega arith

pub split_at_mut-blocks-requires : goal.split_at_mut-blocks-requires
split_at_mut-blocks-requires c =
    let blocks = c.self.inside.blocks.items in
    let rest = parts-are c.deref_mut.result.now c.split_at_mut-rest.result.0.now c.split_at_mut-rest.result.1.now blocks
    c.args.place.blocks (blocks_before c.args.self.now c.args.place.number) c.deref_mut.ensures.value c.split_at_mut-rest.ensures.value c.split_at_mut-rest.ensures.front_len c.requires.place in
    let ends = end-cut_blocks c.self.inside.lens.items blocks c.args.self.now c.args.place.number c.index.result.now c.self.invariant.0 c.self.view_is c.requires.within in
    let len = c.from-len.ensures ∙ c.index.ensures in
    let long = ap (λ (xs : Kept). length xs) rest.1 in
    let left = length-drop (blocks_before c.args.self.now c.args.place.number) blocks in
    omega arith

-- the blocks before the patch, those of it, and those after it
first-is : (c : After-self-3-1) → (c.split_at_mut-rest.result.0.now ≡ take (blocks_before c.args.self.now c.args.place.number) c.self.inside.blocks.items)
    × (c.split_at_mut-rest.result.1.now ≡ drop (blocks_before c.args.self.now c.args.place.number) c.self.inside.blocks.items)
first-is c =
    parts-are c.deref_mut.result.now c.split_at_mut-rest.result.0.now c.split_at_mut-rest.result.1.now c.self.inside.blocks.items
    c.args.place.blocks (blocks_before c.args.self.now c.args.place.number) c.deref_mut.ensures.value c.split_at_mut-rest.ensures.value c.split_at_mut-rest.ensures.front_len c.requires.place

second-is : (c : After-self-3-1)
    → (c.split_at_mut-blocks.result.0.now ≡ take (get_or c.self.inside.lens.items c.args.place.number c.index.result.now) (drop (blocks_before c.args.self.now c.args.place.number) c.self.inside.blocks.items))
    × (c.split_at_mut-blocks.result.1.now ≡ drop (get_or c.self.inside.lens.items c.args.place.number c.index.result.now) (drop (blocks_before c.args.self.now c.args.place.number) c.self.inside.blocks.items))
second-is c =
    parts-are c.split_at_mut-rest.result.1.now c.split_at_mut-blocks.result.0.now c.split_at_mut-blocks.result.1.now (drop (blocks_before c.args.self.now c.args.place.number) c.self.inside.blocks.items)
    c.from-len.result (get_or c.self.inside.lens.items c.args.place.number c.index.result.now) (first-is c).1 c.split_at_mut-blocks.ensures.value c.split_at_mut-blocks.ensures.front_len (c.from-len.ensures ∙ c.index.ensures)

patch-is : (c : After-self-3-1) → c.split_at_mut-blocks.result.0.now ≡ get_or c.args.self.now c.args.place.number []
patch-is c =
    (second-is c).0 ∙ at-cut_blocks c.self.inside.lens.items c.self.inside.blocks.items c.args.self.now c.args.place.number c.index.result.now c.self.invariant.0 c.self.view_is c.requires.within

-- the image has the patch's blocks
pub swap_blocks-requires : goal.swap_blocks-requires
swap_blocks-requires c =
    let lens = c.self.inside.lens.items in
    let blocks = c.self.inside.blocks.items in
    let place = blocks_before c.args.self.now c.args.place.number in
    let first = parts-are c.deref_mut.result.now c.split_at_mut-rest.result.0.now c.split_at_mut-rest.result.1.now blocks
    c.args.place.blocks place c.deref_mut.ensures.value c.split_at_mut-rest.ensures.value c.split_at_mut-rest.ensures.front_len c.requires.place in
    let second = parts-are c.split_at_mut-rest.result.1.now c.split_at_mut-blocks.result.0.now c.split_at_mut-blocks.result.1.now (drop place blocks)
    c.from-len.result (get_or lens c.args.place.number c.index.result.now) first.1 c.split_at_mut-blocks.ensures.value c.split_at_mut-blocks.ensures.front_len (c.from-len.ensures ∙ c.index.ensures) in
    subst (IsPatchOf c.args.image.now)
    (sym (second.0 ∙ at-cut_blocks lens blocks c.args.self.now c.args.place.number c.index.result.now c.self.invariant.0 c.self.view_is c.requires.within))
    c.requires.held

-- the blocks of all patches then
blocks-are : (c : After-self-3-1)
    → c.split_at_mut-rest.result.0.now ++ (c.swap_blocks.new.kept ++ c.split_at_mut-blocks.result.1.now)
    ≡ take (blocks_before c.args.self.now c.args.place.number) c.self.inside.blocks.items
    ++ (taken_blocks c.args.image.now (take (get_or c.self.inside.lens.items c.args.place.number c.index.result.now) (drop (blocks_before c.args.self.now c.args.place.number) c.self.inside.blocks.items))
    ++ drop (get_or c.self.inside.lens.items c.args.place.number c.index.result.now) (drop (blocks_before c.args.self.now c.args.place.number) c.self.inside.blocks.items))
blocks-are c =
    let first = first-is c in
    let second = second-is c in
    ap₂ (λ (xs ys : Kept). xs ++ ys) first.0
    (ap₂ (λ (xs ys : Kept). xs ++ ys) (c.swap_blocks.ensures.kept ∙ ap (taken_blocks c.args.image.now) second.0) second.1)

-- the list that is written back
written-is : (c : After-self-3-1)
    → take c.self.inside.blocks.len ((c.split_at_mut-rest.result.0.now ++ (c.swap_blocks.new.kept ++ c.split_at_mut-blocks.result.1.now))
    ++ drop (length (c.split_at_mut-rest.result.0.now ++ (c.swap_blocks.new.kept ++ c.split_at_mut-blocks.result.1.now))) c.self.inside.blocks.items)
    ≡ c.split_at_mut-rest.result.0.now ++ (c.swap_blocks.new.kept ++ c.split_at_mut-blocks.result.1.now)
written-is c =
    let long : c.self.inside.blocks.len ≡ length c.self.inside.blocks.items = search rules in
    written_over (c.split_at_mut-rest.result.0.now ++ (c.swap_blocks.new.kept ++ c.split_at_mut-blocks.result.1.now)) c.self.inside.blocks.items c.self.inside.blocks.len
    (ap (λ (xs : Kept). length xs) (blocks-are c)
    ∙ swapped-long c.self.inside.lens.items c.self.inside.blocks.items c.args.self.now c.args.image.now c.args.place.number c.index.result.now c.self.invariant.0 c.self.view_is c.requires.within
    ∙ sym long) long

-- the patches then
list-is : (c : After-self-3-1)
    → cut_blocks c.self.inside.lens.items (take c.self.inside.blocks.len ((c.split_at_mut-rest.result.0.now ++ (c.swap_blocks.new.kept ++ c.split_at_mut-blocks.result.1.now))
    ++ drop (length (c.split_at_mut-rest.result.0.now ++ (c.swap_blocks.new.kept ++ c.split_at_mut-blocks.result.1.now))) c.self.inside.blocks.items))
    ≡ set c.args.self.now c.args.place.number (taken_blocks c.args.image.now (get_or c.args.self.now c.args.place.number []))
list-is c =
    ap (cut_blocks c.self.inside.lens.items) (written-is c ∙ blocks-are c)
    ∙ swapped-is c.self.inside.lens.items c.self.inside.blocks.items c.args.self.now c.args.image.now c.args.place.number c.index.result.now c.self.invariant.0 c.self.view_is c.requires.within

pub invariant_of-self : goal.invariant_of-self
invariant_of-self c =
    let records = c.args.self.now in
    let number = c.args.place.number in
    let image = c.args.image.now in
    let patch : Kept = get_or records number [] in
    let rise : All IsPatch records = subst (All IsPatch) c.self.view_is c.self.invariant.1 in
    let bytes : All HaveBlocks records = subst (All HaveBlocks) c.self.view_is c.self.invariant.2 in (
      c.self.invariant.0
          ∙ sym (ap (λ (xs : Kept). length xs) (written-is c ∙ blocks-are c)
          ∙ swapped-long c.self.inside.lens.items c.self.inside.blocks.items records image number c.index.result.now c.self.invariant.0 c.self.view_is c.requires.within),
      subst (All IsPatch) (sym (list-is c))
          (All-set IsPatch records number (taken_blocks image patch) (rises-taken_blocks patch image 0 BLOCKS (All-get_or IsPatch records number [] c.requires.within rise)) rise),
      subst (All HaveBlocks) (sym (list-is c))
          (All-set HaveBlocks records number (taken_blocks image patch) (blocks-taken_blocks patch image 0 c.known_image.ensures.image c.requires.held) bytes),
    )

pub returns-clause-patch : goal.returns-clause-patch
returns-clause-patch c = list-is c

pub returns-clause-image : goal.returns-clause-image
returns-clause-image c = c.swap_blocks.ensures.image ∙ ap (restored_image c.args.image.now) (patch-is c)
