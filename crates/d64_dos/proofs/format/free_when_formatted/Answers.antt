use Rattle.std.proofs.Common.{◌≡◌, ℕ, ◌++◌, List, length, sym, ap, ◌∙◌}
use Rattle.std.specs.List.{range_with_len}
use Rattle.std.specs.FinSet as set
use Rattle.std.specs.Ordering.{nat_cmp}
use Rattle.d64_map.specs.Map.{all_of}
use Rattle.d64_effects.specs.Format.{free_when_formatted}
use Rattle.d64_effects.proofs.EmptyDisks.{from_range_more}
use Rattle.d64_dos.proofs.BlockRuns.{next_place, taken_more, split_more, all_taken}
use Rattle.d64_dos.proofs.format.free_when_formatted.Goals as goal

pub loop-block-preserved : goal.loop-block-preserved
loop-block-preserved c =
    let invariant = c.loop-block.invariant in
    let done = c.loop-block.yielded in
    let block = c.in-Some.block in
    let split = invariant.split ∙ ap (λ (left : List ℕ). done ++ left) c.in-Some.ensures.steps in
    let here = next_place (length c.args.image.now) done c.next.new.self block split in
    record {
      split = split_more (range_with_len 0 (length c.args.image.now)) done c.next.new.self block split;
      free = from_range_more (length done) block c.loop-block.free c.add.new.self invariant.free here c.add.ensures.value
          ∙ ap (λ (n : ℕ). set.from_list {R = nat_cmp} (range_with_len 0 n)) (sym (taken_more done block));
    }

pub returns : goal.returns
unfolding free_when_formatted
returns c =
    let count = length c.args.image.now in
    let invariant = c.loop-block.invariant in
    let all = all_taken count c.loop-block.yielded c.loop-block.block-iterator invariant.split c.in-None.ensures.steps.0 in
    let e : c.loop-block.free ≡ all_of count = invariant.free ∙ ap all_of all in
    let f = c.remove.ensures.value in let g = c.remove-2.ensures.value in let h = c.map_block.ensures in let d = c.directory_block.ensures in cc
