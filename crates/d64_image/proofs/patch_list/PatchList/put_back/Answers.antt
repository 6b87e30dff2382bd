use Rattle.std.proofs.Common.{ℕ, ◌<◌, List, length, take, refl, sym, ap, ◌∙◌, subst}
use Rattle.d64_image.specs.Patch.{IsPatchOf, restored_image}
use Rattle.d64_image.proofs.Patches.{exchanged-image, kept_below, length-restored_image}
use Rattle.d64_image.proofs.patch_list.PatchList.put_back.Goals as goal

pub loop-entry-init : goal.loop-entry-init
unfolding restored_image
loop-entry-init c = refl

-- one block more is written
pub loop-entry-preserved : goal.loop-entry-preserved
loop-entry-preserved c =
    exchanged-image c.at-entry-items.result.now c.args.image.now c.loop-entry.image c.loop-entry.entry-index c.entry-item.result c.entry-item.result.1
    c.loop-entry-test.true c.loop-entry.invariant c.entry-item.is refl

-- the image has the block that is written next
pub sector_mut-requires : goal.sector_mut-requires
sector_mut-requires c =
    let patch = c.at-entry-items.result.now in
    let image = c.args.image.now in
    let entry = c.entry-item.result in
    let held = subst (IsPatchOf image) (sym c.at-entry-items.ensures.kept) c.requires.held in
    let below : entry.0 < length image =
    subst (λ (e : ℕ × List ℕ). e.0 < length image) (sym c.entry-item.is) (kept_below patch 0 (length image) c.loop-entry.entry-index entry held c.loop-entry-test.true) in
    subst (λ (n : ℕ). entry.0 < n) (sym (ap (λ (i : List (List ℕ)). length i) c.loop-entry.invariant ∙ length-restored_image (take c.loop-entry.entry-index patch) image)) below
