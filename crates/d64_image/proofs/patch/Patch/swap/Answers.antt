use Rattle.std.proofs.Common.{◌≡◌, ℕ, List, ◌++◌, length, take, drop, ap, ap₂, sym, ◌∙◌, subst, rules}
use Rattle.d64_image.specs.declared.block.TheConstants.{BLOCKS}
use Rattle.d64_image.specs.Patch.{Kept, HaveBlocks, IsPatch, IsPatchOf, RisesBetween, restored_image, taken_blocks}
use Rattle.d64_image.proofs.KeptBlocks.{blocks-taken_blocks}
use Rattle.d64_image.proofs.Patches.{rises-taken_blocks, restored_image-taken_blocks, taken_blocks-changed_blocks, length-restored_image}
use Rattle.d64_image.proofs.PatchLists.{written_over, length-taken_blocks}
use Rattle.d64_image.proofs.patch.Patch.swap.Goals as goal
use Rattle.d64_image.proofs.patch.Patch.swap.Goals.{After-self-1}

pub swap_blocks-requires : goal.swap_blocks-requires
swap_blocks-requires c = subst (IsPatchOf c.args.image.now) (sym (c.deref_mut.ensures.value ∙ c.self.view_is)) c.requires

-- what is kept then, and the image
kept-is : (c : After-self-1) → take c.self.inside.kept.len (c.swap_blocks.new.kept ++ drop (length c.swap_blocks.new.kept) c.self.inside.kept.items) ≡ taken_blocks c.args.image.now c.self.inside.kept.items
kept-is c =
    let patch = c.self.inside.kept.items in
    let swapped : c.swap_blocks.new.kept ≡ taken_blocks c.args.image.now patch = c.swap_blocks.ensures.kept ∙ ap (taken_blocks c.args.image.now) c.deref_mut.ensures.value in
    let long : c.self.inside.kept.len ≡ length patch = search rules in
    written_over c.swap_blocks.new.kept patch c.self.inside.kept.len
    (ap (λ (xs : Kept). length xs) swapped ∙ length-taken_blocks c.args.image.now patch ∙ sym long) long
    ∙ swapped

image-is : (c : After-self-1) → c.swap_blocks.new.image ≡ restored_image c.args.image.now c.self.inside.kept.items
image-is c = c.swap_blocks.ensures.image ∙ ap (restored_image c.args.image.now) c.deref_mut.ensures.value

-- the same blocks are kept
pub invariant_of-self : goal.invariant_of-self
invariant_of-self c =
    let patch = c.self.inside.kept.items in
    let image = c.args.image.now in (
      subst IsPatch (sym (kept-is c)) (rises-taken_blocks patch image 0 BLOCKS c.self.invariant.0),
      subst HaveBlocks (sym (kept-is c)) (blocks-taken_blocks patch image 0 c.known_image.ensures.image (subst (RisesBetween 0 (length image)) (sym c.self.view_is) c.requires)),
    )

pub returns-clause-image : goal.returns-clause-image
returns-clause-image c = image-is c ∙ ap (restored_image c.args.image.now) c.self.view_is

pub returns-clause-patch : goal.returns-clause-patch
returns-clause-patch c = kept-is c ∙ ap (taken_blocks c.args.image.now) c.self.view_is

-- what was taken puts the image back
pub returns-clause-back : goal.returns-clause-back
returns-clause-back c = ap₂ restored_image (image-is c) (kept-is c) ∙ restored_image-taken_blocks c.self.inside.kept.items c.args.image.now 0 BLOCKS c.self.invariant.0

-- what changed one way changed back the other
pub returns-clause-changed : goal.returns-clause-changed
returns-clause-changed c e =
    let long : length c.swap_blocks.new.image ≡ length c.args.image.now = ap (λ (i : List (List ℕ)). length i) (image-is c) ∙ length-restored_image c.self.inside.kept.items c.args.image.now in
    kept-is c ∙ ap (taken_blocks c.args.image.now) (c.self.view_is ∙ e) ∙ taken_blocks-changed_blocks c.swap_blocks.new.image c.args.image.now long

-- the image has each block that is kept now
pub returns-clause-held : goal.returns-clause-held
returns-clause-held c =
    let patch = c.self.inside.kept.items in
    let image = c.args.image.now in
    let held = subst (RisesBetween 0 (length image)) (sym c.self.view_is) c.requires in
    subst (λ (n : ℕ). RisesBetween 0 n (take c.self.inside.kept.len (c.swap_blocks.new.kept ++ drop (length c.swap_blocks.new.kept) patch)))
    (sym (ap (λ (i : List (List ℕ)). length i) (image-is c) ∙ length-restored_image patch image))
    (subst (RisesBetween 0 (length image)) (sym (kept-is c)) (rises-taken_blocks patch image 0 (length image) held))
