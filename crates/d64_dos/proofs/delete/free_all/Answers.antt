use Rattle.std.proofs.Common.{◌≡◌, ℕ, ◌+◌, ◌++◌, List, true, false, length, sym, ap, ◌∙◌, subst}
use Rattle.std.specs.List.{range_with_len}
use Rattle.std.specs.Ordering.{nat_cmp}
use Rattle.std.specs.FinSet as set
use Rattle.d64_image.specs.declared.block.TheConstants.{BLOCKS}
use Rattle.d64_dos.proofs.BlockRuns.{next_place, taken_more, split_more, all_taken}
use Rattle.d64_dos.proofs.BlockSets.{FreedBelow, one_freed, none_freed, all_freed}
use Rattle.d64_dos.proofs.delete.free_all.Goals as goal

pub loop-block-preserved-then-has : goal.loop-block-preserved-then-has
loop-block-preserved-then-has c =
    let free = c.args.free.now in
    let given = c.args.given.now in
    let before = c.loop-block.free in
    let done = c.loop-block.yielded in
    let block = c.in-Some.block in
    let split = c.loop-block.invariant.split ∙ ap (λ (left : List ℕ). done ++ left) c.in-Some.ensures.steps in
    let here = next_place BLOCKS done c.next.new.self block split in
    let member : set.contains given (length done) ≡ true = ap (set.contains given) (sym here) ∙ sym c.has.ensures.value ∙ c.if-has.true in
    let more : c.add.new.self ≡ set.insert before (length done) = c.add.ensures.value ∙ ap (set.insert before) here in
    record {
      split = split_more (range_with_len 0 BLOCKS) done c.next.new.self block split;
      freed = subst (λ (n : ℕ). FreedBelow free given c.add.new.self n) (sym (taken_more done block))
          (subst (λ (made : set.FinSet nat_cmp). FreedBelow free given made (length done + 1)) (sym more)
          (one_freed free given before (length done) c.loop-block.invariant.freed member));
    }

pub loop-block-preserved : goal.loop-block-preserved
loop-block-preserved c =
    let free = c.args.free.now in
    let given = c.args.given.now in
    let before = c.loop-block.free in
    let done = c.loop-block.yielded in
    let block = c.in-Some.block in
    let split = c.loop-block.invariant.split ∙ ap (λ (left : List ℕ). done ++ left) c.in-Some.ensures.steps in
    let here = next_place BLOCKS done c.next.new.self block split in
    let absent : set.contains given (length done) ≡ false = ap (set.contains given) (sym here) ∙ sym c.has.ensures.value ∙ c.if-has.false in
    record {
      split = split_more (range_with_len 0 BLOCKS) done c.next.new.self block split;
      freed = subst (λ (n : ℕ). FreedBelow free given before n) (sym (taken_more done block))
          (none_freed free given before (length done) c.loop-block.invariant.freed absent);
    }

pub returns : goal.returns
returns c =
    let invariant = c.loop-block.invariant in
    let all = all_taken BLOCKS c.loop-block.yielded c.loop-block.block-iterator invariant.split c.in-None.ensures.steps.0 in
    λ blocks listed.
    all_freed c.args.free.now c.args.given.now c.loop-block.free (length c.loop-block.yielded) blocks all c.known_members.ensures listed invariant.freed
