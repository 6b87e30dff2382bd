use Rattle.std.proofs.Common.{ℕ, ◌++◌, length, List, drop, sym, ap, ap₂, ◌∙◌, arith}
use Rattle.std.specs.List.{range_with_len}
use Rattle.std.proofs.lemmas.List.{length-set}
use Rattle.std.proofs.Math.ListN.{replicate}
use Rattle.d64_image.specs.Image.{with_sector}
use Rattle.d64_effects.specs.Format.{blank_disk}
use Rattle.d64_dos.proofs.Blanks.{one_more, all_blank}
use Rattle.d64_dos.proofs.BlockRuns.{next_inside, next_place, taken_more, split_more, all_taken}
use Rattle.d64_dos.proofs.format.blank.Goals as goal

pub blank_block-requires : goal.blank_block-requires
blank_block-requires c =
    let count = length c.args.image.now in
    let done = c.loop-block.yielded in
    let split = c.loop-block.invariant.split ∙ ap (λ (left : List ℕ). done ++ left) c.in-Some.ensures.steps in
    let here = next_place count done c.next.new.self c.in-Some.block split in
    let inside = next_inside count done c.next.new.self c.in-Some.block split in
    let long = c.loop-block.invariant.long in
    omega (arith, here, inside, long)

pub loop-block-preserved : goal.loop-block-preserved
loop-block-preserved c =
    let image = c.args.image.now in
    let invariant = c.loop-block.invariant in
    let done = c.loop-block.yielded in
    let block = c.in-Some.block in
    let split = invariant.split ∙ ap (λ (left : List ℕ). done ++ left) c.in-Some.ensures.steps in
    let here = next_place (length image) done c.next.new.self block split in
    let inside = next_inside (length image) done c.next.new.self block split in
    record {
      split = split_more (range_with_len 0 (length image)) done c.next.new.self block split;
      image = c.in_ok-blank_block.ensures.blank
          ∙ ap₂ (λ (held : List (List ℕ)) (block : ℕ). with_sector held block (replicate 256 0)) invariant.image here
          ∙ one_more (length done) image (replicate 256 0) inside
          ∙ ap (λ (n : ℕ). replicate n (replicate 256 0) ++ drop n image) (sym (taken_more done block));
      long = ap length c.in_ok-blank_block.ensures.blank ∙ length-set c.loop-block.image _ _ ∙ invariant.long;
      back = (c.blank_block.ensures.back.0 ∙ invariant.back.0, λ h. c.blank_block.ensures.back.1 (invariant.back.1 h));
    }

pub returns-clause-blank : goal.returns-clause-blank
unfolding blank_disk
returns-clause-blank c =
    let image = c.args.image.now in
    let invariant = c.loop-block.invariant in
    let all = all_taken (length image) c.loop-block.yielded c.loop-block.block-iterator invariant.split c.in-None.ensures.steps.0 in
    invariant.image
    ∙ ap (λ (n : ℕ). replicate n (replicate 256 0) ++ drop n image) all
    ∙ all_blank (length image) image (replicate 256 0) (omega arith)
