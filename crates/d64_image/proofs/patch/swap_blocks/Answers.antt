use Rattle.std.proofs.Common.{◌≡◌, ℕ, ◌<◌, List, take, length, get_or, refl, ap, sym, ◌∙◌, subst}
use Rattle.std.proofs.lemmas.List.{length-set, take_all}
use Rattle.d64_image.specs.Patch.{restored_image, taken_blocks}
use Rattle.d64_image.proofs.Patches.{next_entry, kept_below, exchanged-image, exchanged-kept, taken_blocks-all, length-restored_image}
use Rattle.d64_image.proofs.patch.swap_blocks.Goals as goal

pub loop-place-init : goal.loop-place-init
unfolding restored_image taken_blocks
loop-place-init c = record { image = refl; kept = refl; long = refl }

-- the image has the block that is exchanged next
pub sector_mut-requires : goal.sector_mut-requires
sector_mut-requires c =
    let patch = c.args.kept.now in
    let image = c.args.image.now in
    let place = c.loop-place.place in
    let held = c.loop-place.invariant in
    let entry : ℕ × List ℕ = get_or c.loop-place.kept place c.index-kept-place.result in
    let within = c.loop-place-test.true in
    let is : entry ≡ get_or patch place entry = next_entry patch c.loop-place.kept image place entry held.kept within
    (ap (λ (d : ℕ × List ℕ). get_or c.loop-place.kept place d) c.index-kept-place.is) in
    let below : entry.0 < length image = subst (λ (e : ℕ × List ℕ). e.0 < length image) (sym is) (kept_below patch 0 (length image) place entry c.requires within) in
    subst (λ (n : ℕ). entry.0 < n) (sym (ap (λ (i : List (List ℕ)). length i) held.image ∙ length-restored_image (take place patch) image)) below

-- one block more is exchanged
pub loop-place-preserved : goal.loop-place-preserved
loop-place-preserved c =
    let patch = c.args.kept.now in
    let image = c.args.image.now in
    let place = c.loop-place.place in
    let held = c.loop-place.invariant in
    let entry : ℕ × List ℕ = get_or c.loop-place.kept place c.index-kept-place.result in
    let within = c.loop-place-test.true in
    let is : entry ≡ get_or patch place entry = next_entry patch c.loop-place.kept image place entry held.kept within
    (ap (λ (d : ℕ × List ℕ). get_or c.loop-place.kept place d) c.index-kept-place.is) in
    record {
      image = exchanged-image patch image c.loop-place.image place entry c.swap.new.y within held.image is c.swap.ensures.y_after;
      kept =
          exchanged-kept patch c.loop-place.kept image c.loop-place.image 0 (length image) place entry c.swap.new.x
          c.requires within held.image held.kept is (c.swap.ensures.x_after ∙ c.sector_mut.ensures.value);
      long = length-set c.loop-place.kept place (entry.0, c.swap.new.x) ∙ held.long;
    }

pub returns-clause-image : goal.returns-clause-image
returns-clause-image c = c.loop-place.invariant.image ∙ ap (restored_image c.args.image.now) (take_all c.loop-place.place c.args.kept.now c.loop-place-test.false)

pub returns-clause-kept : goal.returns-clause-kept
returns-clause-kept c =
    taken_blocks-all c.args.kept.now c.loop-place.kept c.args.image.now c.loop-place.place c.loop-place-test.false c.loop-place.invariant.kept
