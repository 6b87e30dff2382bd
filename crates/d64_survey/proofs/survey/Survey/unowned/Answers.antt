use Rattle.std.proofs.Common.{◌≡◌, ℕ, ◌+◌, ◌&&◌, not, List, length, ap, ◌∙◌, arith}
use Rattle.std.specs.List.{count_by, range_with_len}
use Rattle.std.specs.Ordering.{nat_cmp}
use Rattle.std.specs.FinSet as set
use Rattle.std.proofs.lemmas.List.FromFn.{length-range_with_len}
use Rattle.d64_image.proofs.Sizes.{size_most}
use Rattle.d64_map.specs.Map.{free_blocks}
use Rattle.d64_survey.specs.Owners.{is_owned, unowned_count}
use Rattle.d64_survey.proofs.survey.Survey.unowned.Goals as goal

-- how many blocks have no owner and aren't in the set
abbrev left_of : List (List ℕ) → List ℕ → set.FinSet nat_cmp → ℕ
left_of image bs free = count_by (λ block. not (is_owned image block) && not (set.contains free block)) bs

zero_plus : (n : ℕ) → 0 + n ≡ n
zero_plus n = omega arith

pub loop-block-init : goal.loop-block-init
unfolding unowned_count
loop-block-init c =
    let image = c.args.self.now in
    let same = c.image-image.ensures in
    let items = c.into_iter-block-iterator.ensures.into_iter_gives ∙ c.blocks-block-items.ensures.value in
    let most = size_most (length c.image-image.result.now) c.blocks-block-items.ensures.size in
    let long = ap (λ (bs : List ℕ). length bs) items ∙ length-range_with_len 0 (length c.image-image.result.now) in
    record {
      counted = ap (λ (bs : List ℕ). 0 + left_of image bs c.free_set-free.result) (items ∙ ap (λ (i : List (List ℕ)). range_with_len 0 (length i)) same)
          ∙ ap (λ (free : set.FinSet nat_cmp). 0 + left_of image (range_with_len 0 (length image)) free) (c.free_set-free.ensures ∙ ap free_blocks same)
          ∙ zero_plus (left_of image (range_with_len 0 (length image)) (free_blocks image));
      room = omega arith;
    }
