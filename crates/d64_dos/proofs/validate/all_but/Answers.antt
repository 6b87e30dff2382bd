use Rattle.std.proofs.Common.{◌≡◌, ℕ, ◌+◌, ◌++◌, List, true, false, length, sym, ap, ◌∙◌, subst}
use Rattle.std.specs.List.{range_with_len}
use Rattle.std.specs.Ordering.{nat_cmp}
use Rattle.std.specs.FinSet as set
use Rattle.d64_dos.proofs.BlockRuns.{next_place, taken_more, split_more, all_taken}
use Rattle.d64_dos.proofs.BlockSets.{OthersBelow, no_others, one_other, no_other, all_others}
use Rattle.d64_dos.proofs.validate.all_but.Goals as goal

pub loop-block-init : goal.loop-block-init
loop-block-init c = record {
  split = sym (c.into_iter-block-iterator.ensures.into_iter_gives ∙ c.blocks-block-items.ensures.value);
  others = subst (λ (others : set.FinSet nat_cmp). OthersBelow c.args.owned.now others 0) (sym c.empty-others.ensures.value) (no_others c.args.owned.now);
}

pub loop-block-preserved-then-not-has : goal.loop-block-preserved-then-not-has
loop-block-preserved-then-not-has c =
    let owned = c.args.owned.now in
    let before = c.loop-block.others in
    let done = c.loop-block.yielded in
    let block = c.in-Some.block in
    let split = c.loop-block.invariant.split ∙ ap (λ (left : List ℕ). done ++ left) c.in-Some.ensures.steps in
    let here = next_place (length c.args.image.now) done c.next.new.self block split in
    let absent : set.contains owned (length done) ≡ false = ap (set.contains owned) (sym here) ∙ sym c.has.ensures.value ∙ c.if-not-has.true in
    let more : c.add.new.self ≡ set.insert before (length done) = c.add.ensures.value ∙ ap (set.insert before) here in
    record {
      split = split_more (range_with_len 0 (length c.args.image.now)) done c.next.new.self block split;
      others = subst (λ (n : ℕ). OthersBelow owned c.add.new.self n) (sym (taken_more done block))
          (subst (λ (others : set.FinSet nat_cmp). OthersBelow owned others (length done + 1)) (sym more)
          (one_other owned before (length done) c.loop-block.invariant.others absent));
    }

pub loop-block-preserved : goal.loop-block-preserved
loop-block-preserved c =
    let owned = c.args.owned.now in
    let before = c.loop-block.others in
    let done = c.loop-block.yielded in
    let block = c.in-Some.block in
    let split = c.loop-block.invariant.split ∙ ap (λ (left : List ℕ). done ++ left) c.in-Some.ensures.steps in
    let here = next_place (length c.args.image.now) done c.next.new.self block split in
    let member : set.contains owned (length done) ≡ true = ap (set.contains owned) (sym here) ∙ sym c.has.ensures.value ∙ c.if-not-has.false in
    record {
      split = split_more (range_with_len 0 (length c.args.image.now)) done c.next.new.self block split;
      others = subst (λ (n : ℕ). OthersBelow owned before n) (sym (taken_more done block))
          (no_other owned before (length done) c.loop-block.invariant.others member);
    }

pub returns : goal.returns
returns c =
    let count = length c.args.image.now in
    let invariant = c.loop-block.invariant in
    let all = all_taken count c.loop-block.yielded c.loop-block.block-iterator invariant.split c.in-None.ensures.steps.0 in
    λ blocks listed. all_others c.args.owned.now c.loop-block.others (length c.loop-block.yielded) count blocks all listed invariant.others
